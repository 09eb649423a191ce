use Rattle.std.proofs.Common.{length, ◌-◌}
use Rattle.lf_lists.proofs.KnownClimbs.{BackState}
use Rattle.lf_lists.proofs.known.climb_marking.Given as goal

abbrev pub invariant-climb : goal.invariant-climb
invariant-climb g l =
    BackState (g.O.Oracle.quads l.fn.oracle) (g.O.Oracle.quads l.oracle) l.graph l.start l.fn.known (g.O.Oracle.told l.fn.oracle)
    (g.O.Oracle.told l.oracle) l.fn.steps l.steps l.known l.climbed.keys l.node

abbrev pub decreases-climb : goal.decreases-climb
decreases-climb g l = length (g.O.Oracle.quads l.oracle) - length l.climbed.keys
