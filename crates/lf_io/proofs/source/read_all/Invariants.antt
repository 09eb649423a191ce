use Rattle.std.proofs.Common.{◌≡◌, ◌+◌, ◌^◌, ◌≤◌, length, ◌-◌}
use Rattle.lf_io.specs.Bytes.{prepended}
use Rattle.lf_io.proofs.source.read_all.Given as goal

abbrev pub invariant-loop-count : goal.invariant-loop-count
invariant-loop-count g l =
    (g.S.Source.left l.initial.source ≡ prepended l.bytes.items (g.S.Source.left l.source))
    × (g.S.Source.taken l.source ≡ g.S.Source.taken l.initial.source + length l.bytes.items)
    × (length l.bytes.items ≤ l.limit)
    × (g.S.Source.faults l.source ≡ g.S.Source.faults l.initial.source)

abbrev pub decreases-loop-count : goal.decreases-loop-count
decreases-loop-count g l = 2 ^ 63 - g.S.Source.taken l.source
