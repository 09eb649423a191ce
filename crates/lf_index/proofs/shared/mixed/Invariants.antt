use Rattle.std.proofs.Common.{◌≡◌, ◌<◌, drop}
use Rattle.lf_index.specs.Numbers.{mixed}
use Rattle.lf_index.proofs.shared.mixed.Given as goal

abbrev pub invariant-loop-byte : goal.invariant-loop-byte
invariant-loop-byte l = (l.number < 4294967296) × (mixed l.number (drop l.byte-index l.text) ≡ mixed l.first l.text)
