use Rattle.lf_nodes.proofs.Subjects.{SubjectsState}
use Rattle.lf_nodes.proofs.pointing.subjects_of.Given as goal

abbrev pub invariant-loop-quad : goal.invariant-loop-quad
invariant-loop-quad g l =
    SubjectsState (g.O.Oracle.quads l.initial.oracle) (g.O.Oracle.quads l.oracle) (g.O.Oracle.told l.initial.oracle) (g.O.Oracle.told l.oracle)
    l.initial.steps l.steps l.quads l.quad-index l.found.items
