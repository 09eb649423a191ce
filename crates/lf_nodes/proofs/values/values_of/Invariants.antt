use Rattle.lf_nodes.proofs.States.{ValuesState}
use Rattle.lf_nodes.proofs.values.values_of.Given as goal

abbrev pub invariant-loop-entry : goal.invariant-loop-entry
invariant-loop-entry g l =
    ValuesState (g.O.Oracle.quads l.initial.oracle) (g.O.Oracle.quads l.oracle) l.node (g.O.Oracle.told l.initial.oracle)
    (g.O.Oracle.told l.oracle) l.initial.steps l.steps l.entries l.entry-index l.values
