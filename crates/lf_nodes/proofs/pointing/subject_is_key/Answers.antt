use Rattle.std.proofs.Common.{◌∙◌, sym, false, true}
use Rattle.lf_lists.proofs.Hearings.{heard, heard_as, learnt, unheard}
use Rattle.lf_nodes.specs.Pointing.{subject_test}
use Rattle.lf_nodes.proofs.Arrows.{subject_literal, subject_linked, subject_unlinked}
use Rattle.lf_nodes.proofs.Homes.{one_graph_from}
use Rattle.lf_nodes.proofs.pointing.subject_is_key.Goals as goal

pub returns-then-not-is_node-clause-key : goal.returns-then-not-is_node-clause-key
returns-then-not-is_node-clause-key g c =
    learnt (unheard _ _ _ _ _ (λ other. subject_literal other c.args.quad.now (sym c.is_node.ensures ∙ c.if-not-is_node.true)))
    (λ other. subject_test other c.args.quad.now) false (λ other e. e)

pub returns-then-not-is_link-clause-key : goal.returns-then-not-is_link-clause-key
returns-then-not-is_link-clause-key g c =
    learnt
    (unheard _ _ _ _ _
    (λ other. subject_unlinked other c.args.quad.now (sym c.is_node.ensures ∙ c.if-not-is_node.false) (sym c.is_link.ensures ∙ c.if-not-is_link.true)))
    (λ other. subject_test other c.args.quad.now) true (λ other e. e)

pub is_cell-requires : goal.is_cell-requires
is_cell-requires g c = record { graph = one_graph_from c.in_ok-graph.graph c.args.quad.now c.in_ok-graph.ensures }

pub returns-clause-key : goal.returns-clause-key
returns-clause-key g c =
    learnt
    (heard_as (λ question near. (sym c.is_link.ensures ∙ c.if-not-is_link.false, near)) (λ other e. e) (heard c.in_ok-cell.ensures.cell))
    (λ other. subject_test other c.args.quad.now) _
    (λ other e.
    subject_linked other c.args.quad.now c.in_ok-graph.graph _ (sym c.is_node.ensures ∙ c.if-not-is_node.false)
    (sym c.is_link.ensures ∙ c.if-not-is_link.false) c.in_ok-graph.ensures e)
