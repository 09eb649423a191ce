use Rattle.std.proofs.Common.{length}
use Rattle.lf_nodes.proofs.States.{PropsState}
use Rattle.lf_nodes.proofs.values.props_of.Given as goal

abbrev pub invariant-loop-first : goal.invariant-loop-first
invariant-loop-first g l =
    PropsState (g.O.Oracle.quads l.initial.oracle) (g.O.Oracle.quads l.oracle) l.node (g.O.Oracle.told l.initial.oracle)
    (g.O.Oracle.told l.oracle) l.initial.steps l.steps l.entries l.rest l.props

abbrev pub decreases-loop-first : goal.decreases-loop-first
decreases-loop-first g l = length l.rest
