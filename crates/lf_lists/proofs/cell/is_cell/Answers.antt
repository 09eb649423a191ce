use Rattle.std.proofs.Common.{◌∙◌}
use Rattle.lf_lists.proofs.CellTests.{nothing_few, start_now, known_now, cell_lacks, lacks_bound, cell_found, found_bound}
use Rattle.lf_lists.proofs.cell.is_cell.Goals as goal

pub climbs_out-requires : goal.climbs_out-requires
climbs_out-requires g c =
    record {
      graph = c.requires.graph;
      start = start_now c.new-proper.ensures.empty c.in_ok-ends.ensures.walks c.if-ends.true c.in_ok-ends.ensures.quads_stay;
      proper = known_now c.new-proper.ensures.empty c.in_ok-ends.ensures.walks c.if-ends.true c.in_ok-ends.ensures.quads_stay;
      few = c.in_ok-ends.ensures.few (nothing_few _ c.new-proper.ensures.empty);
    }

pub returns-then-ends : goal.returns-then-ends
returns-then-ends g c =
    record {
      cell =
          cell_found c.new-proper.ensures.empty c.in_ok-ends.ensures.walks c.if-ends.true c.in_ok-ends.ensures.quads_stay c.in_ok-found.ensures.climbs;
      bound =
          found_bound c.new-proper.ensures.empty c.in_ok-ends.ensures.walks c.if-ends.true c.in_ok-ends.ensures.quads_stay c.in_ok-ends.ensures.bound
          c.in_ok-found.ensures.bound;
      quads_stay = c.in_ok-found.ensures.quads_stay ∙ c.in_ok-ends.ensures.quads_stay;
    }

pub returns : goal.returns
returns g c =
    record {
      cell = cell_lacks c.new-proper.ensures.empty c.in_ok-ends.ensures.walks c.if-ends.false;
      bound =
          lacks_bound c.new-proper.ensures.empty c.in_ok-ends.ensures.walks c.if-ends.false
          (c.in_ok-ends.ensures.few (nothing_few _ c.new-proper.ensures.empty)) c.in_ok-ends.ensures.bound;
      quads_stay = c.in_ok-ends.ensures.quads_stay;
    }
