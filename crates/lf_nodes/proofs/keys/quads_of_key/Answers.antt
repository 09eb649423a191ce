use Rattle.std.proofs.Common.{sym, ◌∙◌, ap, None, Some}
use Rattle.def_datasets.specs.Views.{is_some_quad}
use Rattle.lf_lists.proofs.Hearings.{followed, heard, learnt, moved, unheard}
use Rattle.lf_nodes.specs.Keys.{key_quads}
use Rattle.lf_nodes.proofs.OneGraph.{none_for_literal, none_for_cell, some_by_quads, some_by_others, none_by_others}
use Rattle.lf_nodes.proofs.keys.quads_of_key.Goals as goal

pub returns-then-not-is_node-clause-quads : goal.returns-then-not-is_node-clause-quads
returns-then-not-is_node-clause-quads g c =
    learnt (unheard _ _ _ _ _ (λ other. none_for_literal other c.args.graph.now c.args.node.now c.requires.graph (sym c.is_node.ensures ∙ c.if-not-is_node.true)))
    (λ other. key_quads other c.args.graph.now c.args.node.now) None (λ other e. e)

pub returns-then-cell-clause-quads : goal.returns-then-cell-clause-quads
returns-then-cell-clause-quads g c =
    learnt (heard c.in_ok-cell.ensures.cell) (λ other. key_quads other c.args.graph.now c.args.node.now) None
    (λ other e. none_for_cell other c.args.graph.now c.args.node.now c.requires.graph (sym c.if-cell.true ∙ e))

pub returns-then-has_quad-clause-quads : goal.returns-then-has_quad-clause-quads
returns-then-has_quad-clause-quads g c =
    learnt (followed (heard c.in_ok-cell.ensures.cell) (moved c.in_ok-cell.ensures.quads_stay (heard c.in_ok-told.ensures.quads)))
    (λ other. key_quads other c.args.graph.now c.args.node.now) (Some c.in_ok-told.told)
    (λ other e.
    some_by_quads other c.args.graph.now c.args.node.now c.requires.graph c.in_ok-told.told (sym c.is_node.ensures ∙ c.if-not-is_node.false)
    (sym c.if-cell.false ∙ e.0) e.1 (sym (c.has_quad.ensures ∙ ap is_some_quad c.as_slice.ensures) ∙ c.if-has_quad.true))

pub returns-then-seen-clause-quads : goal.returns-then-seen-clause-quads
returns-then-seen-clause-quads g c =
    learnt
    (followed (followed (heard c.in_ok-cell.ensures.cell) (moved c.in_ok-cell.ensures.quads_stay (heard c.in_ok-told.ensures.quads)))
    (moved (c.in_ok-told.ensures.quads_stay ∙ c.in_ok-cell.ensures.quads_stay) (heard c.in_ok-seen.ensures.key)))
    (λ other. key_quads other c.args.graph.now c.args.node.now) (Some c.in_ok-told.told)
    (λ other e.
    some_by_others other c.args.graph.now c.args.node.now c.requires.graph c.in_ok-told.told (sym c.is_node.ensures ∙ c.if-not-is_node.false)
    (sym c.if-cell.false ∙ e.0.0) e.0.1 (sym (c.has_quad.ensures ∙ ap is_some_quad c.as_slice.ensures) ∙ c.if-has_quad.false)
    (sym c.if-seen.true ∙ e.1))

pub returns-clause-quads : goal.returns-clause-quads
returns-clause-quads g c =
    learnt
    (followed (followed (heard c.in_ok-cell.ensures.cell) (moved c.in_ok-cell.ensures.quads_stay (heard c.in_ok-told.ensures.quads)))
    (moved (c.in_ok-told.ensures.quads_stay ∙ c.in_ok-cell.ensures.quads_stay) (heard c.in_ok-seen.ensures.key)))
    (λ other. key_quads other c.args.graph.now c.args.node.now) None
    (λ other e.
    none_by_others other c.args.graph.now c.args.node.now c.requires.graph c.in_ok-told.told e.0.1
    (sym (c.has_quad.ensures ∙ ap is_some_quad c.as_slice.ensures) ∙ c.if-has_quad.false) (sym c.if-seen.false ∙ e.1))
