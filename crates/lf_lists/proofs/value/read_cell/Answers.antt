use Rattle.lf_lists.proofs.ReadStates.{reads_under, reads_along, near_under, near_along, parts_here}
use Rattle.lf_lists.proofs.value.read_cell.Goals as goal

pub returns-then-listed-clause-reads : goal.returns-then-listed-clause-reads
returns-then-listed-clause-reads g c =
    reads_under c.args.graph.now c.args.reader c.in_ok-parts.ensures.parts c.in_ok-parts.ensures.quads_stay c.in_ok-listed.ensures.list c.if-listed.true c.in_ok-under.ensures

pub returns-then-listed-clause-near : goal.returns-then-listed-clause-near
returns-then-listed-clause-near g c =
    near_under _ c.args.graph.now c.args.reader c.in_ok-parts.parts c.in_ok-under.under (parts_here c.args.graph.now c.args.reader c.in_ok-parts.ensures.parts c.in_ok-parts.ensures.quads_stay c.in_ok-listed.ensures.list)
    c.in_ok-under.ensures

pub returns-clause-reads : goal.returns-clause-reads
returns-clause-reads g c =
    reads_along c.args.graph.now c.args.reader c.in_ok-parts.ensures.parts c.in_ok-parts.ensures.quads_stay c.in_ok-listed.ensures.list c.if-listed.false c.in_ok-along.ensures

pub returns-clause-near : goal.returns-clause-near
returns-clause-near g c =
    near_along _ c.args.graph.now c.args.reader c.in_ok-parts.parts c.in_ok-along.along (parts_here c.args.graph.now c.args.reader c.in_ok-parts.ensures.parts c.in_ok-parts.ensures.quads_stay c.in_ok-listed.ensures.list)
    c.in_ok-along.ensures
