use Rattle.std.proofs.Common.{Bool, sym, ap, ◌∙◌, subst}
use Rattle.std.specs.List.{list_any}
use Rattle.std.specs.List.Sorted.{IsStrictlySortedBy}
use Rattle.std.specs.Ordering.{is_eq}
use Rattle.std.proofs.lemmas.List.Kept.{IsStrictlySortedBy-dedup}
use Rattle.std.proofs.lemmas.List.Filters.{dedup_is}
use Rattle.std.proofs.lemmas.List.Sorted.{list_any-IsPermutation}
use Rattle.lf_order.proofs.SetLemmas.{any-dedup, within-dedup}
use Rattle.lf_order.proofs.sorted.sorted_set.Goals as goal

pub returns-clause-ascends : goal.returns-clause-ascends
returns-clause-ascends g c =
    let sorted = c.sort.new.self.items in
    let left = dedup_is g.T.PartialEq.eq sorted c.dedup.new.self.items c.dedup.ensures.filtered in
    subst (IsStrictlySortedBy g.T.Ord.cmp) (sym left) (IsStrictlySortedBy-dedup g.met.T.Ord.total g.met.T.Ord.matches_eq sorted c.in_ok-sort.ensures.sorted)

pub returns-clause-members : goal.returns-clause-members
returns-clause-members g c =
    λ test alike.
    let sorted = c.sort.new.self.items in
    let left = dedup_is g.T.PartialEq.eq sorted c.dedup.new.self.items c.dedup.ensures.filtered in
    ap (list_any test) left
    ∙ (any-dedup g.T.PartialEq.eq test (λ a b e. alike a b (sym (g.met.T.Ord.matches_eq a b) ∙ e)) sorted
    ∙ sym (list_any-IsPermutation test c.args.values.items sorted c.in_ok-sort.ensures.permutation))

pub returns-clause-within : goal.returns-clause-within
returns-clause-within g c =
    λ test found.
    let sorted = c.sort.new.self.items in
    let left = dedup_is g.T.PartialEq.eq sorted c.dedup.new.self.items c.dedup.ensures.filtered in
    list_any-IsPermutation test c.args.values.items sorted c.in_ok-sort.ensures.permutation
    ∙ within-dedup g.T.PartialEq.eq test sorted (sym (ap (list_any test) left) ∙ found)
