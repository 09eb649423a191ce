use Rattle.std.proofs.Common.{[], length, ◌-◌}
use Rattle.lf_lists.proofs.WalkStates.{WalkState}
use Rattle.lf_lists.proofs.known.walk.Given as goal

abbrev pub invariant-walk : goal.invariant-walk
invariant-walk g l =
    WalkState (g.O.Oracle.quads l.fn.oracle) (g.O.Oracle.quads l.oracle) l.graph l.start [] (g.O.Oracle.told l.fn.oracle)
    (g.O.Oracle.told l.oracle) l.fn.steps l.steps l.walked.keys l.walked.keys l.node

abbrev pub decreases-walk : goal.decreases-walk
decreases-walk g l = length (g.O.Oracle.quads l.oracle) - length l.walked.keys
