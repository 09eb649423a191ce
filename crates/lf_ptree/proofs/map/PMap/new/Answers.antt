use Rattle.std.proofs.Common.{subst, sym}
use Rattle.lf_ptree.specs.Roots.{IsRoot}
use Rattle.lf_ptree.proofs.RootsLemmas.{no_root}
use Rattle.lf_ptree.proofs.map.PMap.new.Goals as goal

pub invariant_of-result : goal.invariant_of-result
invariant_of-result g c = subst (IsRoot g.K.Ord.cmp) (sym c.new.ensures.items) (no_root g.K.Ord.cmp)
