use Rattle.lf_nquads.proofs.Hex.{ReadsDigits}
use Rattle.lf_nquads.proofs.cursor.Cursor.numbered.Given as goal

abbrev pub invariant-loop-place : goal.invariant-loop-place
invariant-loop-place l = ReadsDigits l.initial.self l._place l.value l.self
