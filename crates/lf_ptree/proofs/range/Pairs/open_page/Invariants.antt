use Rattle.std.proofs.Common.{◌≡◌, length}
use Rattle.lf_ptree.specs.Ranges.{pairs_left}
use Rattle.lf_ptree.proofs.range.Pairs.open_page.Given as goal

abbrev pub invariant-loop-page : goal.invariant-loop-page
invariant-loop-page g l = (pairs_left l.self ≡ pairs_left l.initial.self) × (l.self.middles.now ≡ l.initial.self.middles.now)

abbrev pub decreases-loop-page : goal.decreases-loop-page
decreases-loop-page g l = length l.self.pages.now
