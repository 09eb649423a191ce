use Rattle.std.proofs.Common.{length}
use Rattle.lf_nquads.proofs.PatchProofs.{UnderWay}
use Rattle.lf_nquads.proofs.patch.read_patch.Given as goal

abbrev pub invariant-lines : goal.invariant-lines
invariant-lines l = UnderWay l.bytes l.lines l.number l.text

abbrev pub decreases-lines : goal.decreases-lines
decreases-lines l = length l.text
