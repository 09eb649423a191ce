use Rattle.std.proofs.Common.{[], ◌∷◌, ◌++◌, sym, subst, refl, ap, ◌∙◌}
use Rattle.std.specs.Ordering.{nat_cmp}
use Rattle.std.specs.List.Sorted.{IsStrictlySortedBy}
use Rattle.lf_ptree.specs.Pairs.{Ascends}
use Rattle.lf_ptree.proofs.tests.built.Goals as goal

pub from_sorted-requires : goal.from_sorted-requires
unfolding IsStrictlySortedBy
from_sorted-requires c =
    subst (Ascends nat_cmp)
    (sym (c.in_ok-push-2.ensures.items ∙ ap (λ l. l ++ (5, 50) ∷ []) (c.in_ok-push.ensures.items ∙ ap (λ l. l ++ (3, 30) ∷ []) c.new-pairs.ensures.items)))
    ((refl, tt), (tt, tt))
