-- The orders are total.
use Rattle.std.specs.Cmp.{IsTotalOrder, IsEquivalence, nat_cmp_total, bool_cmp_total}
use Rattle.std.specs.Cmp.Lexicographic.{options_total}
use Rattle.std.specs.Ordering.{eq_by_cmp}
use Rattle.std.proofs.lemmas.Cmp.{on_total, then_total, lists_total, nat_list_cmp_total, eq_by_cmp_equiv}
use Rattle.lf_rdf.specs.declared.quad.Quad.{Quad}
use Rattle.def_datasets.specs.Order.{term_parts, quad_cmp}
use Rattle.def_datasets.proofs.OrderLaws.{quad_strict}
use Rattle.def_datasets.specs.Terms.{tells_type}
use Rattle.lf_index.specs.Numbers.{number_of}
use Rattle.lf_index.specs.Orders.{term_order, label_order, subjects, predicates, objects, graphs, kinds, subject_order, object_order, graph_order}

pub term_total : IsTotalOrder term_order
term_total = then_total (on_total number_of nat_cmp_total)
    (on_total term_parts (lists_total nat_list_cmp_total))

pub label_total : IsTotalOrder label_order
label_total = options_total term_total

pub subjects_total : IsTotalOrder subjects
subjects_total = on_total (λ (q : Quad). q.subject) term_total

pub predicates_total : IsTotalOrder predicates
predicates_total = on_total (λ (q : Quad). q.predicate) term_total

pub objects_total : IsTotalOrder objects
objects_total = on_total (λ (q : Quad). q.object) term_total

pub graphs_total : IsTotalOrder graphs
graphs_total = on_total (λ (q : Quad). q.graph) label_total

pub kinds_total : IsTotalOrder kinds
kinds_total = on_total tells_type bool_cmp_total

pub subject_total : IsTotalOrder subject_order
subject_total =
    then_total (then_total (then_total subjects_total graphs_total) predicates_total) objects_total

pub object_total : IsTotalOrder object_order
object_total =
    then_total
    (then_total (then_total (then_total objects_total kinds_total) predicates_total) graphs_total)
    subjects_total

pub graph_total : IsTotalOrder graph_order
graph_total =
    then_total (then_total (then_total graphs_total subjects_total) predicates_total) objects_total

-- values that an order doesn't tell apart are equal

pub term_equivalence : IsEquivalence (eq_by_cmp term_order)
term_equivalence = eq_by_cmp_equiv term_total

pub subject_equivalence : IsEquivalence (eq_by_cmp subject_order)
subject_equivalence = eq_by_cmp_equiv subject_total

pub object_equivalence : IsEquivalence (eq_by_cmp object_order)
object_equivalence = eq_by_cmp_equiv object_total

pub graph_equivalence : IsEquivalence (eq_by_cmp graph_order)
graph_equivalence = eq_by_cmp_equiv graph_total

-- ---- the order of answers

pub quad_total : IsTotalOrder quad_cmp
quad_total = quad_strict.total

pub quad_equivalence : IsEquivalence (eq_by_cmp quad_cmp)
quad_equivalence = eq_by_cmp_equiv quad_total
