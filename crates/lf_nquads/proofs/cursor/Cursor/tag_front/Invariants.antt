use Rattle.std.proofs.Common.{length}
use Rattle.lf_nquads.proofs.TagProofs.{TagSoFar}
use Rattle.lf_nquads.proofs.cursor.Cursor.tag_front.Given as goal

abbrev pub invariant-loop-c : goal.invariant-loop-c
invariant-loop-c l = TagSoFar l.start l.end l.self l.needed l.digits

abbrev pub decreases-loop-c : goal.decreases-loop-c
decreases-loop-c l = length l.self
