use Rattle.std.proofs.Common.{◌∙◌, ◌++◌, ap}
use Rattle.def_datasets.specs.Views.{keys}
use Rattle.lf_lists.proofs.Hearings.{learnt}
use Rattle.lf_nodes.proofs.members.keys_of.Goals as goal

pub returns-clause-keys : goal.returns-clause-keys
returns-clause-keys g c =
    learnt c.in_ok-put_keys_of.ensures.put (λ other. keys other c.args.graph.now) _
    (λ other e. e ∙ ap (λ l. l ++ keys other c.args.graph.now) c.new-found.ensures)
