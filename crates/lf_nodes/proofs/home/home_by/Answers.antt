use Rattle.std.proofs.Common.{sym, ◌∙◌, ap, subst, Some}
use Rattle.def_datasets.specs.Cells.{is_cell}
use Rattle.lf_lists.proofs.Hearings.{heard, heard_as}
use Rattle.lf_nodes.specs.Keys.{IsHome}
use Rattle.lf_nodes.proofs.Homes.{home_found, home_lacks, one_graph_from}
use Rattle.lf_nodes.proofs.home.home_by.Goals as goal

pub is_cell-requires : goal.is_cell-requires
is_cell-requires g c = record { graph = one_graph_from c.in_ok-graph.graph c.args.one.now c.in_ok-graph.ensures }

pub returns-then-cell-clause-home : goal.returns-then-cell-clause-home
returns-then-cell-clause-home g c =
    heard_as (λ question near. near)
    (λ other e one.
    subst (λ h. IsHome other c.args.node.now (Some h)) (sym c.in_ok-graph.ensures)
    (home_found other c.args.node.now c.args.one.now one
    (ap (λ h. is_cell other h c.args.node.now) (sym c.in_ok-graph.ensures) ∙ (sym e ∙ c.if-cell.true))))
    (heard c.in_ok-cell.ensures.cell)

pub returns-clause-home : goal.returns-clause-home
returns-clause-home g c =
    heard_as (λ question near. near)
    (λ other e one.
    home_lacks other c.args.node.now c.args.one.now one
    (ap (λ h. is_cell other h c.args.node.now) (sym c.in_ok-graph.ensures) ∙ (sym e ∙ c.if-cell.false)))
    (heard c.in_ok-cell.ensures.cell)
