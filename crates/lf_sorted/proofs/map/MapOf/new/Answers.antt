use Rattle.std.proofs.Common.{subst, sym}
use Rattle.std.specs.List.Sorted.{IsStrictlySortedBy}
use Rattle.lf_sorted.specs.Entries.{Ascends}
use Rattle.lf_sorted.proofs.map.MapOf.new.Goals as goal

-- no entry is out of order where there is none
pub invariant_of-result : goal.invariant_of-result
unfolding IsStrictlySortedBy
invariant_of-result g c = subst Ascends (sym c.new.ensures.items) tt
