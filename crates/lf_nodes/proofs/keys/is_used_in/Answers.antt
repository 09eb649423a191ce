use Rattle.std.proofs.Common.{sym, ◌∙◌, ap, false}
use Rattle.std.specs.List.{list_any}
use Rattle.def_datasets.specs.Terms.{lies_in}
use Rattle.lf_lists.proofs.Hearings.{heard, learnt, unheard}
use Rattle.lf_nodes.specs.Keys.{used_in}
use Rattle.lf_nodes.proofs.OneGraph.{used_nil, used_by}
use Rattle.lf_nodes.proofs.keys.is_used_in.Goals as goal

pub returns-then-is_nil-clause-used : goal.returns-then-is_nil-clause-used
returns-then-is_nil-clause-used g c =
    learnt (unheard _ _ _ _ _ (λ other. used_nil other c.args.graph.now c.args.node.now (sym c.is_nil.ensures ∙ c.if-is_nil.true)))
    (λ other. used_in other c.args.graph.now c.args.node.now) false (λ other e. e)

pub returns-clause-used : goal.returns-clause-used
returns-clause-used g c =
    learnt (heard c.in_ok-uses.ensures.quads) (λ other. used_in other c.args.graph.now c.args.node.now) _
    (λ other e.
    (c.any_lies_in.ensures ∙ ap (list_any (lies_in c.args.graph.now)) c.as_slice.ensures)
    ∙ used_by other c.args.graph.now c.args.node.now _ (sym c.is_nil.ensures ∙ c.if-is_nil.false) e)
