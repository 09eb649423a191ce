use Rattle.std.proofs.Common.{◌≡◌, take}
use Rattle.std.specs.String.{string_bytes}
use Rattle.lf_nquads.specs.Written.{lines_text}
use Rattle.lf_nquads.proofs.write.write_quads.Given as goal

abbrev pub invariant-loop-quad : goal.invariant-loop-quad
invariant-loop-quad l = string_bytes l.out ≡ lines_text (take l.quad-index l.quad-items)
