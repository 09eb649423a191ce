use Rattle.std.proofs.Common.{sym, ◌∙◌}
use Rattle.lf_lists.proofs.KnownClimbs.{known_cell, known_other, start_proper, known_here, not_proper_found, climbed_found}
use Rattle.lf_lists.proofs.known.KnownCells.is_cell.Goals as goal

pub returns-then-listed-clause-cell : goal.returns-then-listed-clause-cell
returns-then-listed-clause-cell g c = known_cell c.args.self.now (sym c.is_marked-listed.ensures ∙ c.if-listed.true)

pub returns-then-apart-clause-cell : goal.returns-then-apart-clause-cell
returns-then-apart-clause-cell g c = known_other c.args.self.now (sym c.is_marked-apart.ensures ∙ c.if-apart.true)

pub climb-requires : goal.climb-requires
climb-requires g c =
    record {
      graph = c.requires.graph;
      start = start_proper c.in_ok-ends.ensures.examines c.if-ends.true c.requires.knows c.in_ok-ends.ensures.quads_stay;
      knows = known_here c.in_ok-ends.ensures.examines c.requires.knows c.in_ok-ends.ensures.quads_stay;
    }

pub returns-then-ends-clause-cell : goal.returns-then-ends-clause-cell
returns-then-ends-clause-cell g c =
    climbed_found c.in_ok-ends.ensures.examines c.if-ends.true c.in_ok-ends.ensures.quads_stay c.in_ok-found.ensures.climbs

pub returns-clause-cell : goal.returns-clause-cell
returns-clause-cell g c = not_proper_found c.in_ok-ends.ensures.examines c.if-ends.false
