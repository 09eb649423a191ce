use Rattle.std.proofs.Common.{sym, ◌∙◌, false}
use Rattle.lf_lists.proofs.Hearings.{learnt, unheard}
use Rattle.lf_nodes.specs.Keys.{names_in}
use Rattle.lf_nodes.proofs.OneGraph.{no_name}
use Rattle.lf_nodes.proofs.keys.is_name_in.Goals as goal

pub returns-then-not-is_default-clause-names : goal.returns-then-not-is_default-clause-names
returns-then-not-is_default-clause-names g c =
    learnt (unheard _ _ _ _ _ (λ other. no_name other c.args.graph.now c.args.node.now (sym c.is_default.ensures ∙ c.if-not-is_default.true)))
    (λ other. names_in other c.args.graph.now c.args.node.now) false (λ other e. e)
