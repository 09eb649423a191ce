-- The walk along `rdf:rest`: what one more node tells, and what its ends tell.
use Rattle.std.proofs.Common.{◌≡◌, refl, sym, ◌∙◌, ap, subst, cond, ℕ, suc, ◌≤◌, List, [], ◌∷◌, length, Bool, true, false, not, ◌&&◌, ◌||◌, ◌⊎◌, inl, inr, ⊎_elim, Option, Some, None, arith}
use Rattle.std.proofs.lemmas.Bool.{true≢false, false≢true, and_parts, or_cases, or_left, or_right}
use Rattle.lf_rdf.specs.declared.term.Term.{Term}
use Rattle.lf_rdf.specs.declared.term.Term.TheVariants.{Iri, Blank, Literal}
use Rattle.lf_rdf.specs.declared.quad.Quad.{Quad}
use Rattle.lf_rdf.specs.declared.question.GraphRef.{GraphRef}
use Rattle.lf_rdf.specs.Vocabulary.{rdf_rest, rdf_nil}
use Rattle.lf_rdf.specs.Equality.{term_eq, quad_eq}
use Rattle.def_datasets.specs.Sorted.{has}
use Rattle.def_datasets.specs.Dataset.{holds}
use Rattle.def_datasets.specs.Near.{Near, by_object}
use Rattle.def_datasets.specs.Terms.{is_blank, is_iri, lies_in}
use Rattle.def_datasets.specs.Questions.{answers_of, out}
use Rattle.def_datasets.specs.Cells.{with_predicate, is_one, object_of, rest_of, ends_or, enough, is_shaped, is_proper}
use Rattle.def_datasets.proofs.SortedLaws.{has-filter}
use Rattle.def_datasets.proofs.OrderLaws.{term_decides, quad_decides, quad_strict}
use Rattle.def_datasets.proofs.CellProofs.{Shape, shape, rounds_are_shaped, proper_nodes, proper_nodes_are_least}
use Rattle.lf_lists.specs.Marks.{marked, AllMarked, HasMark}
use Rattle.lf_lists.specs.Walking.{rest_if, shaped_rest, ends_well, Walked, UnderWay}

pub marked_blank : (labels : List (List ℕ)) (x : Term) → marked labels x ≡ true → is_blank x ≡ true
marked_blank labels (Iri iri) e = absurd (false≢true e)
marked_blank labels (Blank label) e = refl
marked_blank labels (Literal a d l) e = absurd (false≢true e)

pub blank_not_nil : (x : Term) → is_blank x ≡ true → is_iri rdf_nil x ≡ false
blank_not_nil (Iri iri) e = absurd (false≢true e)
blank_not_nil (Blank label) e = refl
blank_not_nil (Literal a d l) e = absurd (false≢true e)

-- ---- the quads of a node

abbrev FoundQuad : List ℕ → List Quad → Term → Type 0
FoundQuad iri xs o = (q : Quad) × (has quad_eq xs q ≡ true) × (q.object ≡ o)

found_case : (iri : List ℕ) (x : Quad) (xs : List Quad) (o : Term) (r : Bool)
    → (object_of (with_predicate iri xs) ≡ Some o → FoundQuad iri xs o)
    → object_of (cond r (x ∷ with_predicate iri xs) (with_predicate iri xs)) ≡ Some o → FoundQuad iri (x ∷ xs) o
found_case iri x xs o true ih e = (x, or_left (quad_eq x x) (has quad_eq xs x) ((quad_decides x x).1 refl), cc)
found_case iri x xs o false ih e =
    let (q, a, c) = ih e in
    (q, or_right (quad_eq q x) (has quad_eq xs q) a, c)

found_quad : (iri : List ℕ) (xs : List Quad) (o : Term) → object_of (with_predicate iri xs) ≡ Some o → FoundQuad iri xs o
found_quad iri [] o e = absurd (cc)
found_quad iri (x ∷ xs) o e = found_case iri x xs o (is_iri iri x.predicate) (found_quad iri xs o) e

object_told : (quads : List Quad) → is_one quads ≡ true → (o : Term) × (object_of quads ≡ Some o)
object_told [] e = absurd (false≢true e)
object_told (q ∷ rest) e = (q.object, refl)

-- a quad that a node leads by is in the dataset
led_by : (d : List Quad) (g : GraphRef) (iri : List ℕ) (x o : Term) → object_of (with_predicate iri (out d g x)) ≡ Some o
    → (q : Quad) × (holds d q ≡ true) × (q.subject ≡ x) × (q.object ≡ o)
led_by d g iri x o e =
    let (q, in_out, object) = found_quad iri (out d g x) o e in
    let told : ((lies_in g q && term_eq q.subject x) && holds d q) ≡ true =
    sym (has-filter quad_strict (λ (w : Quad). lies_in g w && term_eq w.subject x) d q) ∙ in_out in
    let parts : ((lies_in g q && term_eq q.subject x) ≡ true) × (holds d q ≡ true) = and_parts (lies_in g q && term_eq q.subject x) (holds d q) told in
    (q, parts.1, (term_decides q.subject x).0 (and_parts (lies_in g q) (term_eq q.subject x) parts.0).1, object)

pub subjects : List Quad → List Term
subjects [] = []
subjects (q ∷ rest) = q.subject ∷ subjects rest

pub subjects_long : (xs : List Quad) → length (subjects xs) ≡ length xs
unfolding subjects
subjects_long [] = refl
subjects_long (q ∷ xs) = ap suc (subjects_long xs)

has_subject : (d : List Quad) (q : Quad) → has quad_eq d q ≡ true → has term_eq (subjects d) q.subject ≡ true
unfolding subjects
has_subject [] q e = absurd (false≢true e)
has_subject (r ∷ rest) q e =
    ⊎_elim
    (λ h. or_left (term_eq q.subject r.subject) (has term_eq (subjects rest) q.subject) ((term_decides q.subject r.subject).1 (ap (λ (w : Quad). w.subject) ((quad_decides q r).0 h))))
    (λ h. or_right (term_eq q.subject r.subject) (has term_eq (subjects rest) q.subject) (has_subject rest q h))
    (or_cases (quad_eq q r) (has quad_eq rest q) e)

pub shaped_is_subject : (d : List Quad) (g : GraphRef) (x : Term) → is_shaped d g x ≡ true → has term_eq (subjects d) x ≡ true
shaped_is_subject d g x e =
    let s : Shape (answers_of d) g x = shape (answers_of d) g x e in
    let (o, is) = object_told (with_predicate rdf_rest (out d g x)) s.rest in
    let (q, held, subject, object) = led_by d g rdf_rest x o is in
    subst (λ (t : Term). has term_eq (subjects d) t ≡ true) subject (has_subject d q held)

module _ (d : List Quad) (g : GraphRef) where
  abbrev proper : Term → Bool
  proper = is_proper d g

  -- a node is proper where its rest, if it has the form of a list node, ends a list well
  rest_case : (b : Bool) (rest : Option Term) → (b && ends_or proper rest) ≡ ends_or proper (rest_if b rest)
  rest_case true rest = refl
  rest_case false rest = refl

  pub proper_by_rest : (x : Term) → is_proper d g x ≡ ends_or proper (shaped_rest d g x)
  proper_by_rest x = proper_nodes d g x ∙ rest_case (is_shaped d g x) (rest_of (answers_of d) g x)

  pub proper_from_rest : (x r : Term) → shaped_rest d g x ≡ Some r → is_proper d g x ≡ ends_well d g r
  proper_from_rest x r e = proper_by_rest x ∙ ap (ends_or proper) e

  pub not_proper : (x : Term) → shaped_rest d g x ≡ None → is_proper d g x ≡ false
  not_proper x e = proper_by_rest x ∙ ap (ends_or proper) e

  shaped_case : (b : Bool) (rest : Option Term) (r : Term) → rest_if b rest ≡ Some r → (b ≡ true) × (rest ≡ Some r)
  shaped_case true rest r e = (refl, e)
  shaped_case false rest r e = absurd (cc)

  pub shaped_told : (x r : Term) → shaped_rest d g x ≡ Some r → (is_shaped d g x ≡ true) × (rest_of (answers_of d) g x ≡ Some r)
  shaped_told x r e = shaped_case (is_shaped d g x) (rest_of (answers_of d) g x) r e

  pub shaped_blank : (x : Term) → is_shaped d g x ≡ true → is_blank x ≡ true
  shaped_blank x e = let s : Shape (answers_of d) g x = shape (answers_of d) g x e in s.blank

  pub proper_shaped : (x : Term) → is_proper d g x ≡ true → is_shaped d g x ≡ true
  proper_shaped x e = rounds_are_shaped (answers_of d) g (enough d) x e

  pub ends_blank : (x : Term) → is_blank x ≡ true → ends_well d g x ≡ is_proper d g x
  ends_blank x e = ap (λ (w : Bool). w || is_proper d g x) (blank_not_nil x e)

  -- ---- one more node

  pub begun : (before : List (List ℕ)) (start : Term) → UnderWay d g before before [] start start
  begun before start =
      record {
        leads = λ x e. absurd (none x e);
        ends = λ x e. absurd (none x e);
        start_ends = refl;
        marks_known = λ x e. inl e;
      }
    where
      none : (x : Term) → marked [] x ≡ true → ⊥
      none (Iri iri) e = false≢true e
      none (Blank label) e = false≢true e
      none (Literal a b c) e = false≢true e

  module _ (before marks walked : List (List ℕ)) (start next : Term) (way : UnderWay d g before marks walked start next) where
    pub walked_on : (marks_after walked_after : List (List ℕ)) (r : Term) → shaped_rest d g next ≡ Some r
        → HasMark walked walked_after next → HasMark marks marks_after next → UnderWay d g before marks_after walked_after start r
    walked_on marks_after walked_after r e in_walked in_marks =
        record {
          leads = λ x m. lead x (in_walked.only x m);
          ends = λ x m. end x (in_walked.only x m);
          start_ends = way.start_ends ∙ onwards;
          marks_known = λ x m. known x (in_marks.only x m);
        }
      where
        blank : is_blank next ≡ true
        blank = shaped_blank next (shaped_told next r e).0

        onwards : ends_well d g next ≡ ends_well d g r
        onwards = ends_blank next blank ∙ proper_from_rest next r e

        goes : (s : Term) → (marked walked s ≡ true) ⊎ (s ≡ next) → (marked walked_after s ≡ true) ⊎ (s ≡ r)
        goes s (inl m) = inl (in_walked.kept s m)
        goes s (inr is) = inl (subst (λ (t : Term). marked walked_after t ≡ true) (sym is) in_walked.here)

        lead : (x : Term) → (marked walked x ≡ true) ⊎ (x ≡ next)
            → (s : Term) × (shaped_rest d g x ≡ Some s) × ((marked walked_after s ≡ true) ⊎ (s ≡ r))
        lead x (inl m) = let (s, f, k) = way.leads x m in (s, f, goes s k)
        lead x (inr is) = (r, ap (shaped_rest d g) is ∙ e, inr refl)

        end : (x : Term) → (marked walked x ≡ true) ⊎ (x ≡ next) → is_proper d g x ≡ ends_well d g r
        end x (inl m) = way.ends x m ∙ onwards
        end x (inr is) = ap (is_proper d g) is ∙ proper_from_rest next r e

        known : (x : Term) → (marked marks x ≡ true) ⊎ (x ≡ next) → (marked before x ≡ true) ⊎ (marked walked_after x ≡ true)
        known x (inl m) = ⊎_elim (λ k. inl k) (λ k. inr (in_walked.kept x k)) (way.marks_known x m)
        known x (inr is) = inr (subst (λ (t : Term). marked walked_after t ≡ true) (sym is) in_walked.here)

    walked_shaped : (x : Term) → marked walked x ≡ true → is_shaped d g x ≡ true
    walked_shaped x m = let (s, f, k) = way.leads x m in (shaped_told x s f).0

    -- ---- the ends of a walk

    pub walk_ends : (ends : Bool) → (AllMarked proper before → ends ≡ ends_well d g next) → Walked d g before marks start ends
    walk_ends ends tells =
        record {
          tells = λ all. tells all ∙ sym way.start_ends;
          shaped = λ all x m. ⊎_elim (λ k. proper_shaped x (all x k)) (λ k. walked_shaped x k) (way.marks_known x m);
          proper = λ all yes x m. ⊎_elim (λ k. all x k) (λ k. way.ends x k ∙ (sym (tells all) ∙ yes)) (way.marks_known x m);
        }

    pub at_nil : is_iri rdf_nil next ≡ true → Walked d g before marks start true
    at_nil nil = walk_ends true (λ all. sym (ap (λ (w : Bool). w || is_proper d g next) nil))

    pub at_known : marked walked next ≡ false → marked marks next ≡ true → Walked d g before marks start true
    at_known apart m = walk_ends true (λ all. sym (or_right (is_iri rdf_nil next) (is_proper d g next) (here all (way.marks_known next m))))
      where
        here : AllMarked proper before → (marked before next ≡ true) ⊎ (marked walked next ≡ true) → is_proper d g next ≡ true
        here all (inl k) = all next k
        here all (inr k) = absurd (true≢false (sym k ∙ apart))

    pub at_stranger : is_iri rdf_nil next ≡ false → shaped_rest d g next ≡ None → Walked d g before marks start false
    at_stranger not_nil e = walk_ends false (λ all. sym (λ i. not_nil i || not_proper next e i))

    -- a node that was walked leads to such nodes alone
    abbrev outside : Term → Bool
    outside x = not (marked walked x)

    outside_marked : (x : Term) → marked walked x ≡ true → outside x ≡ false
    outside_marked x m = ap not m

    ring_rest : marked walked next ≡ true → (x : Term) → marked walked x ≡ true → ends_or outside (shaped_rest d g x) ≡ false
    ring_rest ring x m =
        let (s, f, k) = way.leads x m in
        let inside : marked walked s ≡ true = ⊎_elim (λ h. h) (λ is. ap (marked walked) is ∙ ring) k in
        ap (ends_or outside) f ∙ (λ i. blank_not_nil s (marked_blank walked s inside) i || outside_marked s inside i)

    ring_step : marked walked next ≡ true → (x : Term) → (b : Bool) → marked walked x ≡ b → is_shaped d g x ≡ true
        → ends_or outside (rest_of (answers_of d) g x) ≡ true → not b ≡ true
    ring_step ring x true m shaped told =
        let (s, f, k) = way.leads x m in
        let same : rest_of (answers_of d) g x ≡ shaped_rest d g x = (shaped_told x s f).1 ∙ sym f in
        absurd (true≢false (sym told ∙ (ap (ends_or outside) same ∙ ring_rest ring x m)))
    ring_step ring x false m shaped told = refl

    ring_not_proper : marked walked next ≡ true → is_proper d g next ≡ false
    ring_not_proper ring = go (is_proper d g next) refl
      where
        go : (b : Bool) → is_proper d g next ≡ b → b ≡ false
        go true e =
            absurd
            (true≢false
            (sym
            (proper_nodes_are_least d g outside
            (λ x shaped told. ring_step ring x (marked walked x) refl shaped told) next e)
            ∙ outside_marked next ring))
        go false e = refl

    pub at_ring : marked walked next ≡ true → Walked d g before marks start false
    at_ring ring =
        walk_ends false (λ all. sym (λ i. blank_not_nil next (marked_blank walked next ring) i || ring_not_proper ring i))

    -- ---- how many nodes can be walked

    pub few_walked : (walked_before : List (List ℕ)) (x : Term) → HasMark walked_before walked x → length walked ≤ length d
    few_walked walked_before x m =
        let long : length (subjects d) ≡ length d = subjects_long d in
        let low : length walked ≤ length (subjects d) = m.few (subjects d) (λ y k. shaped_is_subject d g y (walked_shaped y k)) in
        omega arith

-- ---- nearness along a rest

-- what a node leads to by a predicate is near the node
pub near_object : (d : List Quad) (g : GraphRef) (iri : List ℕ) (origin x o : Term) → object_of (with_predicate iri (out d g x)) ≡ Some o
    → Near d [] origin x → Near d [] origin o
near_object d g iri origin x o e near =
    let (q, held, subject, object) = led_by d g iri x o e in
    subst (λ (t : Term). Near d [] origin t) object
    (by_object q held (subst (λ (t : Term). Near d [] origin t) (sym subject) near))

pub near_rest : (d : List Quad) (g : GraphRef) (origin x r : Term) → shaped_rest d g x ≡ Some r → Near d [] origin x → Near d [] origin r
near_rest d g origin x r e near = near_object d g rdf_rest origin x r (shaped_told d g x r e).1 near
