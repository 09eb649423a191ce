-- The orders of terms by their ids and by their canonical texts are total.
use Rattle.std.specs.Cmp.{IsTotalOrder, IsEquivalence}
use Rattle.std.specs.Ordering.{eq_by_cmp}
use Rattle.std.proofs.lemmas.Cmp.{eq_by_cmp_equiv}
use Rattle.def_datasets.specs.Order.{id_cmp, term_cmp}
use Rattle.def_datasets.proofs.OrderLaws.{id_strict, term_strict}

pub id_total : IsTotalOrder id_cmp
id_total = id_strict.total

-- values that an order doesn't tell apart are equal
pub id_equivalence : IsEquivalence (eq_by_cmp id_cmp)
id_equivalence = eq_by_cmp_equiv id_total

pub text_total : IsTotalOrder term_cmp
text_total = term_strict.total
