use Rattle.std.proofs.Common.{sym, ap, ◌∙◌}
use Rattle.std.specs.List.{list_any}
use Rattle.std.specs.Ordering.{eq_by_cmp}
use Rattle.std.proofs.lemmas.List.Filters.{dedup_is}
use Rattle.std.proofs.lemmas.List.Sorted.{list_any-IsPermutation}
use Rattle.lf_order.proofs.SetLemmas.{any-dedup}
use Rattle.lf_order.proofs.Ties.{equal_from}
use Rattle.lf_index.specs.Orders.{term_order}
use Rattle.lf_index.proofs.OrderLemmas.{term_tells}
use Rattle.lf_index.proofs.nodes.each_once.Goals as goal

pub returns : goal.returns
returns c =
    λ test.
    let sorted = c.sort_by_key.new.self.items in
    let left = dedup_is (eq_by_cmp term_order) sorted c.dedup.new.self.items c.dedup.ensures.filtered in
    ap (list_any test) left
    ∙ (any-dedup (eq_by_cmp term_order) test (λ x y tie. ap test (term_tells x y (equal_from (term_order x y) tie))) sorted
    ∙ sym (list_any-IsPermutation test c.args.found.items sorted c.in_ok-sort_by_key.ensures.permutation))
