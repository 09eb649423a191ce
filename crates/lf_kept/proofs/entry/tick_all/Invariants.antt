use Rattle.std.proofs.Common.{◌≡◌, ◌+◌}
use Rattle.lf_kept.proofs.entry.tick_all.Given as goal

abbrev pub invariant-ticks : goal.invariant-ticks
invariant-ticks g l = l.steps + l.left ≡ l.fn.steps + l.asked

abbrev pub decreases-ticks : goal.decreases-ticks
decreases-ticks g l = l.left
