use Rattle.lf_ptree.specs.Pairs.{pairs_of}
use Rattle.lf_ptree.specs.Pages.{groups}
use Rattle.lf_ptree.proofs.PagesLemmas.{IsBuilding}
use Rattle.lf_ptree.proofs.build.pages_of.Given as goal

abbrev pub invariant-loop-pair : goal.invariant-loop-pair
invariant-loop-pair g l = IsBuilding (groups l.pages.items) (pairs_of l.page.items) l.pair-iterator.rest.items l.fn.pairs.items
