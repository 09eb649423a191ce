use Rattle.std.proofs.Common.{◌∙◌}
use Rattle.def_datasets.specs.Views.{is_key}
use Rattle.lf_lists.proofs.Hearings.{heard, learnt}
use Rattle.lf_nodes.proofs.Listing.{some_key}
use Rattle.lf_nodes.proofs.members.has_key_quads.Goals as goal

pub returns-clause-key : goal.returns-clause-key
returns-clause-key g c =
    learnt (heard c.in_ok-told.ensures.quads) (λ other. is_key other c.args.graph.now c.args.node.now) _
    (λ other e. c.is_found.ensures ∙ some_key other c.args.graph.now c.args.node.now _ e)
