use Rattle.std.proofs.Common.{◌≡◌, ◌≤◌, length, ◌-◌, ◌^◌}
use Rattle.lf_io.specs.Bytes.{prepended}
use Rattle.lf_http.proofs.body.fill.Given as goal

abbrev pub invariant-loop-piece : goal.invariant-loop-piece
invariant-loop-piece g l =
    (prepended l.initial.body.items (g.S.Source.left l.initial.source) ≡ prepended l.body.items (g.S.Source.left l.source))
    × (length l.body.items ≤ l.count)
    × ((2 ^ 63) - g.S.Source.taken l.source ≤ (2 ^ 63) - g.S.Source.taken l.initial.source)
    × (g.S.Source.faults l.source ≡ g.S.Source.faults l.initial.source)

abbrev pub decreases-loop-piece : goal.decreases-loop-piece
decreases-loop-piece g l = l.count - length l.body.items
