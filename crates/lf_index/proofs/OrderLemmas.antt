-- What the orders of terms and quads tell.
use Rattle.std.proofs.Common.{◌≡◌, ◌↔◌, Bool, true, false, IsTrue, refl, sym, ap, ◌∙◌, Option, Some, None, Ordering, Less, Equal, Greater}
use Rattle.std.specs.Ordering.{ordering_then, nat_cmp, bool_cmp, eq_by_cmp}
use Rattle.std.specs.Cmp.{bool_cmp_total, tied_itself}
use Rattle.std.proofs.lemmas.Cmp.{lists_total, nat_list_cmp_total}
use Rattle.lf_rdf.specs.Vocabulary.{rdf_type}
use Rattle.lf_rdf.specs.declared.term.Term.{Term}
use Rattle.lf_rdf.specs.declared.quad.Quad.{Quad}
use Rattle.lf_rdf.specs.Equality.{term_eq, quad_eq}
use Rattle.def_datasets.specs.Order.{parts_cmp, term_parts}
use Rattle.def_datasets.specs.Terms.{is_iri, tells_type}
use Rattle.def_datasets.proofs.SortedLaws.{IsStrict}
use Rattle.def_datasets.proofs.OrderLaws.{then_second, parts_tell, term_from_parts, term_decides, quad_decides}
use Rattle.lf_order.proofs.SetLemmas.{same_ties}
use Rattle.lf_order.proofs.Ties.{then_first}
use Rattle.lf_index.specs.Numbers.{number_of}
use Rattle.lf_index.specs.Orders.{term_order, label_order, subjects, predicates, objects, graphs, kinds, subject_order, object_order, graph_order}
use Rattle.lf_index.specs.TotalOrders.{term_total, subject_total, object_total, graph_total}

pub then_assoc : (r s t : Ordering) → ordering_then (ordering_then r s) t ≡ ordering_then r (ordering_then s t)
then_assoc Less s t = refl
then_assoc Equal s t = refl
then_assoc Greater s t = refl

-- ---- ties

-- equal terms have equal parts
pub parts_tie : (s t : Term) → s ≡ t → Equal ≡ parts_cmp (term_parts s) (term_parts t)
parts_tie s t e = sym (ap (λ (w : Term). parts_cmp (term_parts s) (term_parts w)) (sym e) ∙ tied_itself (lists_total nat_list_cmp_total) (term_parts s))

pub term_tells : (s t : Term) → term_order s t ≡ Equal → s ≡ t
term_tells s t e =
    term_from_parts s t (parts_tell (term_parts s) (term_parts t) (then_second (nat_cmp (number_of s) (number_of t)) (parts_cmp (term_parts s) (term_parts t)) e))

pub label_tells : (s t : Option Term) → label_order s t ≡ Equal → s ≡ t
label_tells None None e = refl
label_tells None (Some t) e = absurd (cc)
label_tells (Some s) None e = absurd (cc)
label_tells (Some s) (Some t) e = ap Some (term_tells s t e)

from_places : (q r : Quad) → subjects q r ≡ Equal → predicates q r ≡ Equal → objects q r ≡ Equal → graphs q r ≡ Equal → q ≡ r
from_places q r s p o g =
    let sub : q.subject ≡ r.subject = term_tells q.subject r.subject s in
    let pre : q.predicate ≡ r.predicate = term_tells q.predicate r.predicate p in
    let obj : q.object ≡ r.object = term_tells q.object r.object o in
    let gra : q.graph ≡ r.graph = label_tells q.graph r.graph g in
    λ i. record { subject = sub i; predicate = pre i; object = obj i; graph = gra i }

-- the predicate tells the kind
pub kinds_tie : (q r : Quad) → predicates q r ≡ Equal → kinds q r ≡ Equal
kinds_tie q r e = ap (λ (t : Term). bool_cmp (is_iri rdf_type t) (tells_type r)) (term_tells q.predicate r.predicate e) ∙ tied_itself bool_cmp_total (tells_type r)

-- ---- each order tells any two values apart

pub term_strictly : IsStrict term_eq term_order
term_strictly = record { total = term_total; tells = term_tells; decides = term_decides }

both_ways : (b c : Bool) → (b ≡ true → c ≡ true) → (c ≡ true → b ≡ true) → b ≡ c
both_ways true c f g = sym (f refl)
both_ways false true f g = g refl
both_ways false false f g = refl

-- what tells whether two values are one tells whether an order ties them
pub ties_told : {A : Type 0} {same : A → A → Bool} {cmp : A → A → Ordering} (o : IsStrict same cmp) (b : Bool) (x y : A) → IsTrue b ↔ (x ≡ y)
    → b ≡ eq_by_cmp cmp x y
ties_told {same = same} o b x y is =
    both_ways b (same x y) (λ e. (o.decides x y).1 (is.0 e)) (λ e. is.1 ((o.decides x y).0 e)) ∙ same_ties o x y

pub subject_strictly : IsStrict quad_eq subject_order
subject_strictly =
    record {
      total = subject_total;
      tells = λ q r e.
          let three = then_first (ordering_then (ordering_then (subjects q r) (graphs q r)) (predicates q r)) (objects q r) e in
          let two = then_first (ordering_then (subjects q r) (graphs q r)) (predicates q r) three in
          from_places q r (then_first (subjects q r) (graphs q r) two) (then_second (ordering_then (subjects q r) (graphs q r)) (predicates q r) three)
          (then_second (ordering_then (ordering_then (subjects q r) (graphs q r)) (predicates q r)) (objects q r) e) (then_second (subjects q r) (graphs q r) two);
      decides = quad_decides;
    }

pub object_strictly : IsStrict quad_eq object_order
object_strictly =
    record {
      total = object_total;
      tells = λ q r e.
          let four = then_first (ordering_then (ordering_then (ordering_then (objects q r) (kinds q r)) (predicates q r)) (graphs q r)) (subjects q r) e in
          let three = then_first (ordering_then (ordering_then (objects q r) (kinds q r)) (predicates q r)) (graphs q r) four in
          let two = then_first (ordering_then (objects q r) (kinds q r)) (predicates q r) three in
          from_places q r (then_second (ordering_then (ordering_then (ordering_then (objects q r) (kinds q r)) (predicates q r)) (graphs q r)) (subjects q r) e)
          (then_second (ordering_then (objects q r) (kinds q r)) (predicates q r) three) (then_first (objects q r) (kinds q r) two)
          (then_second (ordering_then (ordering_then (objects q r) (kinds q r)) (predicates q r)) (graphs q r) four);
      decides = quad_decides;
    }

pub graph_strictly : IsStrict quad_eq graph_order
graph_strictly =
    record {
      total = graph_total;
      tells = λ q r e.
          let three = then_first (ordering_then (ordering_then (graphs q r) (subjects q r)) (predicates q r)) (objects q r) e in
          let two = then_first (ordering_then (graphs q r) (subjects q r)) (predicates q r) three in
          from_places q r (then_second (graphs q r) (subjects q r) two) (then_second (ordering_then (graphs q r) (subjects q r)) (predicates q r) three)
          (then_second (ordering_then (ordering_then (graphs q r) (subjects q r)) (predicates q r)) (objects q r) e) (then_first (graphs q r) (subjects q r) two);
      decides = quad_decides;
    }
