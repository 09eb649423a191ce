use Rattle.lf_ptree.specs.Roots.{IsGathering}
use Rattle.lf_ptree.proofs.build.middles_of.Given as goal

abbrev pub invariant-loop-page : goal.invariant-loop-page
invariant-loop-page g l = IsGathering l.middles.items l.gathered.items l.page-iterator.rest.items l.fn.pages.items
