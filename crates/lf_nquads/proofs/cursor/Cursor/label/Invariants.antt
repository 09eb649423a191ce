use Rattle.std.proofs.Common.{length}
use Rattle.lf_nquads.proofs.LabelProofs.{LabelSoFar}
use Rattle.lf_nquads.proofs.cursor.Cursor.label.Given as goal

abbrev pub invariant-loop-c : goal.invariant-loop-c
invariant-loop-c l = LabelSoFar l.start l.end l.self

abbrev pub decreases-loop-c : goal.decreases-loop-c
decreases-loop-c l = length l.self
