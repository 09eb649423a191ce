use Rattle.std.proofs.Common.{◌≡◌, length, take}
use Rattle.lf_base.proofs.list.ListOfSame.is.Given as goal

abbrev pub invariant-loop-place : goal.invariant-loop-place
invariant-loop-place g l = (length l.self ≡ length l.other) × (take l.place l.self ≡ take l.place l.other)
