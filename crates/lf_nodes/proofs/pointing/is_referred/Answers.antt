use Rattle.std.proofs.Common.{◌∙◌, sym, false}
use Rattle.def_datasets.specs.Terms.{graph_of}
use Rattle.lf_lists.proofs.Hearings.{heard, learnt, unheard}
use Rattle.lf_nodes.specs.Pointing.{is_referred}
use Rattle.lf_nodes.proofs.Arrows.{nil_not_referred, referred_by}
use Rattle.lf_nodes.proofs.Homes.{one_graph_from}
use Rattle.lf_nodes.proofs.pointing.is_referred.Goals as goal

pub returns-then-is_nil-clause-refers : goal.returns-then-is_nil-clause-refers
returns-then-is_nil-clause-refers g c =
    learnt (unheard _ _ _ _ _ (λ other. nil_not_referred other (graph_of c.args.quad.now) c.args.node.now (sym c.is_nil.ensures ∙ c.if-is_nil.true)))
    (λ other. is_referred other (graph_of c.args.quad.now) c.args.node.now) false (λ other e. e)

pub is_cell-requires : goal.is_cell-requires
is_cell-requires g c = record { graph = one_graph_from c.in_ok-graph.graph c.args.quad.now c.in_ok-graph.ensures }

pub returns-clause-refers : goal.returns-clause-refers
returns-clause-refers g c =
    learnt (heard c.in_ok-cell.ensures.cell) (λ other. is_referred other (graph_of c.args.quad.now) c.args.node.now) _
    (λ other e.
    referred_by other c.in_ok-graph.graph (graph_of c.args.quad.now) c.args.node.now _ (sym c.is_nil.ensures ∙ c.if-is_nil.false) e c.in_ok-graph.ensures)
