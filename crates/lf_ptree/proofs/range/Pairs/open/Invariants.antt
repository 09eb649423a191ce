use Rattle.std.proofs.Common.{◌≡◌, [], length}
use Rattle.lf_ptree.specs.Ranges.{pairs_left}
use Rattle.lf_ptree.proofs.range.Pairs.open.Given as goal

abbrev pub invariant-loop-middle : goal.invariant-loop-middle
invariant-loop-middle g l = (pairs_left l.self ≡ pairs_left l.initial.self) × (l.self.here.now ≡ [] → l.self.pages.now ≡ [])

abbrev pub decreases-loop-middle : goal.decreases-loop-middle
decreases-loop-middle g l = length l.self.middles.now
