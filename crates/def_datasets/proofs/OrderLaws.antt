-- The orders of terms and quads are total and tell any two apart, and the tests of equality decide equality.
use Rattle.std.proofs.Common.{◌≡◌, refl, sym, ap, subst, ℕ, List, [], ◌∷◌, Bool, true, ◌&&◌, Option, Some, None, Ordering, Less, Equal, Greater, nat_cmp, Decides}
use Rattle.std.specs.Cmp.{IsTotalOrder}
use Rattle.std.specs.Cmp.Lexicographic.{slice_cmp, bytes_decides}
use Rattle.std.specs.Ordering.{ordering_then}
use Rattle.std.proofs.lemmas.Bool.{false≢true, and_parts, and_from}
use Rattle.std.proofs.lemmas.Cmp.{ranked, on_total, then_total, lists_total, nat_list_cmp_total}
use Rattle.lf_rdf.specs.declared.term.Term.{Term}
use Rattle.lf_rdf.specs.declared.term.Term.TheVariants.{Iri, Blank, Literal}
use Rattle.lf_rdf.specs.declared.quad.Quad.{Quad}
use Rattle.lf_rdf.specs.Canonical.{id_of, term_text, line}
use Rattle.lf_rdf.specs.Equality.{text_eq, option_eq, term_eq, quad_eq}
use Rattle.def_datasets.specs.Order.{text_cmp, parts_cmp, term_parts, label_parts, id_cmp, term_cmp, parts_order, quad_cmp}
use Rattle.def_datasets.proofs.SortedLaws.{IsStrict}

-- ---- ties

then_first : (r s : Ordering) → ordering_then r s ≡ Equal → r ≡ Equal
then_first Less s e = e
then_first Equal s e = refl
then_first Greater s e = e

pub then_second : (r s : Ordering) → ordering_then r s ≡ Equal → s ≡ Equal
then_second Less s e = absurd (cc)
then_second Equal s e = e
then_second Greater s e = absurd (cc)

pub numbers_tell : (x y : ℕ) → nat_cmp x y ≡ Equal → x ≡ y
numbers_tell x y e = ranked x y Equal (sym e)

pub lists_tell : {K : Type 0} (R : K → K → Ordering) → ((x y : K) → R x y ≡ Equal → x ≡ y) → (xs ys : List K) → slice_cmp R xs ys ≡ Equal → xs ≡ ys
lists_tell R tells [] [] e = refl
lists_tell R tells [] (y ∷ ys) e = absurd (cc)
lists_tell R tells (x ∷ xs) [] e = absurd (cc)
lists_tell R tells (x ∷ xs) (y ∷ ys) e =
    let first : x ≡ y = tells x y (then_first (R x y) (slice_cmp R xs ys) e) in
    let rest : xs ≡ ys = lists_tell R tells xs ys (then_second (R x y) (slice_cmp R xs ys) e) in
    cc

pub texts_tell : (x y : List ℕ) → text_cmp x y ≡ Equal → x ≡ y
texts_tell = lists_tell nat_cmp numbers_tell

pub parts_tell : (x y : List (List ℕ)) → parts_cmp x y ≡ Equal → x ≡ y
parts_tell = lists_tell text_cmp texts_tell

-- ---- parts

pub term_from_parts : (s t : Term) → term_parts s ≡ term_parts t → s ≡ t
term_from_parts (Iri a) (Iri b) e = cc
term_from_parts (Iri a) (Blank b) e = absurd (cc)
term_from_parts (Iri a) (Literal b d None) e = absurd (cc)
term_from_parts (Iri a) (Literal b d (Some l)) e = absurd (cc)
term_from_parts (Blank a) (Iri b) e = absurd (cc)
term_from_parts (Blank a) (Blank b) e = cc
term_from_parts (Blank a) (Literal b d None) e = absurd (cc)
term_from_parts (Blank a) (Literal b d (Some l)) e = absurd (cc)
term_from_parts (Literal a c None) (Iri b) e = absurd (cc)
term_from_parts (Literal a c None) (Blank b) e = absurd (cc)
term_from_parts (Literal a c None) (Literal b d None) e = cc
term_from_parts (Literal a c None) (Literal b d (Some l)) e = absurd (cc)
term_from_parts (Literal a c (Some k)) (Iri b) e = absurd (cc)
term_from_parts (Literal a c (Some k)) (Blank b) e = absurd (cc)
term_from_parts (Literal a c (Some k)) (Literal b d None) e = absurd (cc)
term_from_parts (Literal a c (Some k)) (Literal b d (Some l)) e = cc

not_empty_parts : (t : Term) → [] ≡ term_parts t → ⊥
not_empty_parts (Iri a) e = cc
not_empty_parts (Blank a) e = cc
not_empty_parts (Literal a d None) e = cc
not_empty_parts (Literal a d (Some l)) e = cc

pub label_from_parts : (s t : Option Term) → label_parts s ≡ label_parts t → s ≡ t
label_from_parts None None e = refl
label_from_parts None (Some t) e = absurd (not_empty_parts t e)
label_from_parts (Some s) None e = absurd (not_empty_parts s (sym e))
label_from_parts (Some s) (Some t) e = ap Some (term_from_parts s t e)

-- ---- tests of equality

pub option_decides : {A : Type 0} (same : A → A → Bool) → ((x y : A) → Decides (same x y) (x ≡ y)) → (x y : Option A) → Decides (option_eq same x y) (x ≡ y)
option_decides same d None None = (λ e. refl, λ e. refl)
option_decides same d None (Some y) = (λ e. absurd (false≢true e), λ e. absurd (cc))
option_decides same d (Some x) None = (λ e. absurd (false≢true e), λ e. absurd (cc))
option_decides same d (Some x) (Some y) = (λ e. ap Some ((d x y).0 e), λ e. (d x y).1 (cc))

term_told : (s t : Term) → term_eq s t ≡ true → s ≡ t
term_told (Iri a) (Iri b) e = ap Iri ((bytes_decides a b).0 e)
term_told (Iri a) (Blank b) e = absurd (false≢true e)
term_told (Iri a) (Literal b d l) e = absurd (false≢true e)
term_told (Blank a) (Iri b) e = absurd (false≢true e)
term_told (Blank a) (Blank b) e = ap Blank ((bytes_decides a b).0 e)
term_told (Blank a) (Literal b d l) e = absurd (false≢true e)
term_told (Literal a c k) (Iri b) e = absurd (false≢true e)
term_told (Literal a c k) (Blank b) e = absurd (false≢true e)
term_told (Literal a c k) (Literal b d l) e =
    let outer : ((text_eq a b && text_eq c d) ≡ true) × (option_eq text_eq k l ≡ true) =
    and_parts (text_eq a b && text_eq c d) (option_eq text_eq k l) e in
    let inner : (text_eq a b ≡ true) × (text_eq c d ≡ true) = and_parts (text_eq a b) (text_eq c d) outer.0 in
    let first : a ≡ b = (bytes_decides a b).0 inner.0 in
    let second : c ≡ d = (bytes_decides c d).0 inner.1 in
    let third : k ≡ l = (option_decides text_eq bytes_decides k l).0 outer.1 in
    cc

term_itself : (t : Term) → term_eq t t ≡ true
term_itself (Iri a) = (bytes_decides a a).1 refl
term_itself (Blank a) = (bytes_decides a a).1 refl
term_itself (Literal a c k) =
    and_from (text_eq a a && text_eq c c) (option_eq text_eq k k)
    (and_from (text_eq a a) (text_eq c c) ((bytes_decides a a).1 refl) ((bytes_decides c c).1 refl))
    ((option_decides text_eq bytes_decides k k).1 refl)

pub term_decides : (s t : Term) → Decides (term_eq s t) (s ≡ t)
term_decides s t = (term_told s t, λ e. subst (λ (w : Term). term_eq s w ≡ true) e (term_itself s))

quad_from_fields : (q r : Quad) → q.subject ≡ r.subject → q.predicate ≡ r.predicate → q.object ≡ r.object → q.graph ≡ r.graph → q ≡ r
quad_from_fields q r s p o g = λ i. record { subject = s i; predicate = p i; object = o i; graph = g i }

quad_told : (q r : Quad) → quad_eq q r ≡ true → q ≡ r
quad_told q r e =
    let x : ((term_eq q.subject r.subject && term_eq q.predicate r.predicate && term_eq q.object r.object) ≡ true) × (option_eq term_eq q.graph r.graph ≡ true) =
    and_parts (term_eq q.subject r.subject && term_eq q.predicate r.predicate && term_eq q.object r.object) (option_eq term_eq q.graph r.graph) e in
    let y : ((term_eq q.subject r.subject && term_eq q.predicate r.predicate) ≡ true) × (term_eq q.object r.object ≡ true) =
    and_parts (term_eq q.subject r.subject && term_eq q.predicate r.predicate) (term_eq q.object r.object) x.0 in
    let z : (term_eq q.subject r.subject ≡ true) × (term_eq q.predicate r.predicate ≡ true) =
    and_parts (term_eq q.subject r.subject) (term_eq q.predicate r.predicate) y.0 in
    quad_from_fields q r (term_told q.subject r.subject z.0) (term_told q.predicate r.predicate z.1) (term_told q.object r.object y.1)
    ((option_decides term_eq term_decides q.graph r.graph).0 x.1)

quad_itself : (q : Quad) → quad_eq q q ≡ true
quad_itself q =
    and_from (term_eq q.subject q.subject && term_eq q.predicate q.predicate && term_eq q.object q.object) (option_eq term_eq q.graph q.graph)
    (and_from (term_eq q.subject q.subject && term_eq q.predicate q.predicate) (term_eq q.object q.object)
    (and_from (term_eq q.subject q.subject) (term_eq q.predicate q.predicate) (term_itself q.subject) (term_itself q.predicate))
    (term_itself q.object))
    ((option_decides term_eq term_decides q.graph q.graph).1 refl)

pub quad_decides : (q r : Quad) → Decides (quad_eq q r) (q ≡ r)
quad_decides q r = (quad_told q r, λ e. subst (λ (w : Quad). quad_eq q w ≡ true) e (quad_itself q))

-- ---- the orders

parts_total : IsTotalOrder parts_cmp
parts_total = lists_total nat_list_cmp_total

pub text_strict : IsStrict text_eq text_cmp
text_strict = record { total = nat_list_cmp_total; tells = texts_tell; decides = bytes_decides }

pub id_strict : IsStrict term_eq id_cmp
id_strict =
    record {
      total = then_total (on_total id_of nat_list_cmp_total) (on_total term_parts parts_total);
      tells = λ s t e. term_from_parts s t (parts_tell (term_parts s) (term_parts t) (then_second (text_cmp (id_of s) (id_of t)) (parts_cmp (term_parts s) (term_parts t)) e));
      decides = term_decides;
    }

pub term_strict : IsStrict term_eq term_cmp
term_strict =
    record {
      total = then_total (on_total term_text nat_list_cmp_total) (on_total term_parts parts_total);
      tells = λ s t e. term_from_parts s t (parts_tell (term_parts s) (term_parts t) (then_second (text_cmp (term_text s) (term_text t)) (parts_cmp (term_parts s) (term_parts t)) e));
      decides = term_decides;
    }

by_parts : (q r : Quad) → parts_order q r ≡ Equal → q ≡ r
by_parts q r e =
    let S : Ordering = parts_cmp (term_parts q.subject) (term_parts r.subject) in
    let P : Ordering = parts_cmp (term_parts q.predicate) (term_parts r.predicate) in
    let O : Ordering = parts_cmp (term_parts q.object) (term_parts r.object) in
    let G : Ordering = parts_cmp (label_parts q.graph) (label_parts r.graph) in
    let past_s : ordering_then P (ordering_then O G) ≡ Equal = then_second S (ordering_then P (ordering_then O G)) e in
    let past_p : ordering_then O G ≡ Equal = then_second P (ordering_then O G) past_s in
    quad_from_fields q r
    (term_from_parts q.subject r.subject (parts_tell (term_parts q.subject) (term_parts r.subject) (then_first S (ordering_then P (ordering_then O G)) e)))
    (term_from_parts q.predicate r.predicate (parts_tell (term_parts q.predicate) (term_parts r.predicate) (then_first P (ordering_then O G) past_s)))
    (term_from_parts q.object r.object (parts_tell (term_parts q.object) (term_parts r.object) (then_first O G past_p)))
    (label_from_parts q.graph r.graph (parts_tell (label_parts q.graph) (label_parts r.graph) (then_second O G past_p)))

pub quad_strict : IsStrict quad_eq quad_cmp
quad_strict =
    record {
      total =
          then_total (on_total line nat_list_cmp_total)
          (then_total (on_total (λ (q : Quad). term_parts q.subject) parts_total)
          (then_total (on_total (λ (q : Quad). term_parts q.predicate) parts_total)
          (then_total (on_total (λ (q : Quad). term_parts q.object) parts_total) (on_total (λ (q : Quad). label_parts q.graph) parts_total))));
      tells = λ q r e. by_parts q r (then_second (text_cmp (line q) (line r)) (parts_order q r) e);
      decides = quad_decides;
    }
