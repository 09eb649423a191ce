-- The properties of a view from its quads in order.
use Rattle.std.proofs.Common.{◌≡◌, refl, sym, ◌∙◌, ap, subst, cond, ℕ, List, [], ◌∷◌, map, filter, Bool, true, false, not, ◌&&◌, ◌||◌, ⊎_elim, Some, None, Ordering, Less, Equal, Greater, if◌then◌else◌}
use Rattle.std.specs.List.{list_all, list_any}
use Rattle.std.specs.Ordering.{is_eq, is_lt, on, ordering_then}
use Rattle.std.specs.Cmp.{tied_itself}
use Rattle.std.proofs.lemmas.Bool.{true≢false, false≢true, not-true, and_parts, and_from, or_cases, or_left, or_right}
use Rattle.lf_rdf.specs.declared.term.Term.{Term}
use Rattle.lf_rdf.specs.declared.quad.Quad.{Quad}
use Rattle.lf_rdf.specs.declared.question.GraphRef.{GraphRef}
use Rattle.lf_rdf.specs.declared.question.GraphRef.TheVariants as graph
use Rattle.lf_rdf.specs.Equality.{text_eq, term_eq, quad_eq}
use Rattle.lf_model.specs.ValueData.{ListValue}
use Rattle.def_datasets.specs.Sorted.{has, ascends, placed, put, put_all, set_of}
use Rattle.def_datasets.specs.Order.{term_cmp, text_cmp}
use Rattle.def_datasets.specs.Dataset.{holds}
use Rattle.def_datasets.specs.Near.{Near, itself, by_object}
use Rattle.def_datasets.specs.Terms.{lies_in, graph_of}
use Rattle.def_datasets.specs.Questions.{answers_of, out_any}
use Rattle.def_datasets.specs.Cells.{enough}
use Rattle.def_datasets.specs.Views.{View, ViewProperty, is_type_quad, key_in, is_key, property_quads, properties_in, property_by, quads_of, quads_under, types_in, view_from, view_of}
use Rattle.def_datasets.proofs.SortedLaws.{has-filter, same_members, same_itself}
use Rattle.def_datasets.proofs.OrderLaws.{quad_strict, term_decides, term_strict, text_strict}
use Rattle.def_datasets.proofs.ViewProofs.{any-filter, any-map}
use Rattle.def_datasets.proofs.TellProofs.{objects_are_told, objects_in_order, shared_objects}
use Rattle.lf_order.proofs.Ties.{equal_from, then_first}
use Rattle.def_datasets.proofs.OrderLaws.{then_second}
use Rattle.lf_order.proofs.SetLemmas.{set_alike}
use Rattle.lf_nodes.specs.Keys.{kept_if, key_quads}
use Rattle.lf_nodes.specs.Properties.{AreHeld, AreNear, InPropertyOrder, entry_cmp, gathered, property_of, quad_value, under}

-- ---- what is in the set of a list is in the list

module _ (p : Quad → Bool) (cmp : Quad → Quad → Ordering) where
  any_placed : (x y : Quad) (ys : List Quad) (r : Ordering) → (list_any p (put cmp x ys) ≡ true → (p x || list_any p ys) ≡ true)
      → list_any p (placed r x y ys (put cmp x ys)) ≡ true → (p x || (p y || list_any p ys)) ≡ true
  any_placed x y ys Less ih e = e
  any_placed x y ys Equal ih e = or_right (p x) (p y || list_any p ys) e
  any_placed x y ys Greater ih e =
      ⊎_elim (λ h. or_right (p x) (p y || list_any p ys) (or_left (p y) (list_any p ys) h))
      (λ h.
      ⊎_elim (λ k. or_left (p x) (p y || list_any p ys) k) (λ k. or_right (p x) (p y || list_any p ys) (or_right (p y) (list_any p ys) k))
      (or_cases (p x) (list_any p ys) (ih h)))
      (or_cases (p y) (list_any p (put cmp x ys)) e)

  any_put : (x : Quad) (xs : List Quad) → list_any p (put cmp x xs) ≡ true → (p x || list_any p xs) ≡ true
  any_put x [] e = e
  any_put x (y ∷ ys) e = any_placed x y ys (cmp x y) (any_put x ys) e

  any_put_all : (xs ys : List Quad) → list_any p (put_all cmp xs ys) ≡ true → (list_any p ys || list_any p xs) ≡ true
  any_put_all xs [] e = e
  any_put_all xs (y ∷ ys) e =
      ⊎_elim (λ h. or_left (p y || list_any p ys) (list_any p xs) (or_right (p y) (list_any p ys) h))
      (λ h.
      ⊎_elim (λ k. or_left (p y || list_any p ys) (list_any p xs) (or_left (p y) (list_any p ys) k))
      (λ k. or_right (p y || list_any p ys) (list_any p xs) k) (or_cases (p y) (list_any p xs) (any_put y xs h)))
      (or_cases (list_any p ys) (list_any p (put cmp y xs)) (any_put_all (put cmp y xs) ys e))

  any_set : (xs : List Quad) → list_any p (set_of cmp xs) ≡ true → list_any p xs ≡ true
  any_set xs e = ⊎_elim (λ h. h) (λ h. absurd (false≢true h)) (or_cases (list_any p xs) false (any_put_all [] xs e))

-- ---- ties

tied_property : (q r : Quad) → is_eq (entry_cmp q r) ≡ true → property_of q ≡ property_of r
tied_property q r e =
    text_strict.tells (property_of q) (property_of r)
    (then_first (text_cmp (property_of q) (property_of r)) (term_cmp q.object r.object) (equal_from (entry_cmp q r) e))

tied_object : (q r : Quad) → is_eq (entry_cmp q r) ≡ true → q.object ≡ r.object
tied_object q r e =
    term_strict.tells q.object r.object
    (then_second (text_cmp (property_of q) (property_of r)) (term_cmp q.object r.object) (equal_from (entry_cmp q r) e))

-- ---- the objects under a property ascend

after_tie : (q r : Quad) → property_of q ≡ property_of r → is_lt (entry_cmp q r) ≡ true → is_lt (term_cmp q.object r.object) ≡ true
after_tie q r same e = go (text_cmp (property_of q) (property_of r)) refl e
  where
    not_less : text_cmp (property_of q) (property_of r) ≡ Less → ⊥
    not_less h =
        true≢false
        (sym (ap is_lt h) ∙ (ap (λ (w : List ℕ). is_lt (text_cmp (property_of q) w)) (sym same) ∙ ap is_lt (tied_itself text_strict.total (property_of q))))

    go : (s : Ordering) → text_cmp (property_of q) (property_of r) ≡ s → is_lt (ordering_then s (term_cmp q.object r.object)) ≡ true → is_lt (term_cmp q.object r.object) ≡ true
    go Less h f = absurd (not_less h)
    go Equal h f = f
    go Greater h f = absurd (false≢true f)

objects_below : (p : List ℕ) (x : Quad) (xs : List Quad) → property_of x ≡ p → list_all (λ y. is_lt (entry_cmp x y)) xs ≡ true
    → list_all (λ o. is_lt (term_cmp x.object o)) (map (λ q. q.object) (filter (under p) xs)) ≡ true
objects_below p x [] here e = refl
objects_below p x (y ∷ ys) here e = go (under p y) refl (objects_below p x ys here parts.1)
  where
    parts : (is_lt (entry_cmp x y) ≡ true) × (list_all (λ z. is_lt (entry_cmp x z)) ys ≡ true)
    parts = and_parts (is_lt (entry_cmp x y)) (list_all (λ z. is_lt (entry_cmp x z)) ys) e

    go : (b : Bool) → under p y ≡ b → list_all (λ o. is_lt (term_cmp x.object o)) (map (λ q. q.object) (filter (under p) ys)) ≡ true
        → list_all (λ o. is_lt (term_cmp x.object o)) (map (λ q. q.object) (cond b (y ∷ filter (under p) ys) (filter (under p) ys))) ≡ true
    go true f ih =
        and_from (is_lt (term_cmp x.object y.object)) _ (after_tie x y (here ∙ (text_strict.decides p (property_of y)).0 f) parts.0) ih
    go false f ih = ih

objects_ascend : (p : List ℕ) (xs : List Quad) → ascends entry_cmp xs ≡ true → ascends term_cmp (map (λ q. q.object) (filter (under p) xs)) ≡ true
objects_ascend p [] e = refl
objects_ascend p (x ∷ xs) e = go (under p x) refl (objects_ascend p xs parts.1)
  where
    parts : (list_all (λ y. is_lt (entry_cmp x y)) xs ≡ true) × (ascends entry_cmp xs ≡ true)
    parts = and_parts (list_all (λ y. is_lt (entry_cmp x y)) xs) (ascends entry_cmp xs) e

    go : (b : Bool) → under p x ≡ b → ascends term_cmp (map (λ q. q.object) (filter (under p) xs)) ≡ true
        → ascends term_cmp (map (λ q. q.object) (cond b (x ∷ filter (under p) xs) (filter (under p) xs))) ≡ true
    go true f ih =
        and_from (list_all (λ o. is_lt (term_cmp x.object o)) (map (λ q. q.object) (filter (under p) xs))) _
        (objects_below p x xs (sym ((text_strict.decides p (property_of x)).0 f)) parts.0) ih
    go false f ih = ih

-- ---- two lists of quads with the same objects have the same values

shared_map : (value : Quad → ListValue) (xs ys : List Quad) → map (λ q. q.object) xs ≡ map (λ q. q.object) ys
    → ((x y : Quad) → has quad_eq xs x ≡ true → has quad_eq ys y ≡ true → x.object ≡ y.object → value x ≡ value y) → map value xs ≡ map value ys
shared_map value [] [] e same = refl
shared_map value [] (y ∷ ys) e same = absurd (cc)
shared_map value (x ∷ xs) [] e same = absurd (cc)
shared_map value (x ∷ xs) (y ∷ ys) e same =
    let first : x.object ≡ y.object = cc in
    let later : map (λ (q : Quad). q.object) xs ≡ map (λ (q : Quad). q.object) ys = cc in
    let here : value x ≡ value y =
    same x y (or_left (quad_eq x x) (has quad_eq xs x) (same_itself quad_strict x)) (or_left (quad_eq y y) (has quad_eq ys y) (same_itself quad_strict y)) first in
    let rest : map value xs ≡ map value ys =
    shared_map value xs ys later (λ a b in_a in_b o. same a b (or_right (quad_eq a x) (has quad_eq xs a) in_a) (or_right (quad_eq b y) (has quad_eq ys b) in_b) o) in
    λ i. here i ∷ rest i

module _ (quads made : List Quad) (order : InPropertyOrder quads made) where
  abbrev told : List Quad
  told = property_quads quads

  same_properties : properties_in made ≡ properties_in told
  same_properties =
      set_alike text_strict (map property_of made) (map property_of told)
      (λ z.
      any-map (text_eq z) property_of made
      ∙ (order.members (λ q. text_eq z (property_of q)) (λ q r e. ap (text_eq z) (tied_property q r e))
      ∙ sym (any-map (text_eq z) property_of told)))

  same_objects : (p : List ℕ) → map (λ q. q.object) (filter (under p) made) ≡ map (λ q. q.object) (quads_under p told)
  same_objects p =
      same_members term_strict (map (λ q. q.object) (filter (under p) made)) (map (λ q. q.object) (quads_under p told))
      (objects_ascend p made order.in_order) (objects_in_order told p)
      (λ z.
      any-map (term_eq z) (λ q. q.object) (filter (under p) made)
      ∙ (any-filter (λ q. term_eq z q.object) (under p) made
      ∙ (order.members (λ q. under p q && term_eq z q.object)
      (λ q r e. λ i. text_eq p (tied_property q r e i) && term_eq z (tied_object q r e i))
      ∙ sym (objects_are_told told p z))))

  -- a quad in order is one of a property
  in_told : (q : Quad) → has quad_eq told q ≡ true → (is_type_quad q ≡ false) × (has quad_eq quads q ≡ true)
  in_told q e =
      let parts = and_parts (not (is_type_quad q)) (has quad_eq quads q) (sym (has-filter quad_strict (λ r. not (is_type_quad r)) quads q) ∙ e) in
      (not-true (is_type_quad q) parts.0, parts.1)

  in_made : (p : List ℕ) (q : Quad) → has quad_eq (filter (under p) made) q ≡ true → has quad_eq told q ≡ true
  in_made p q e =
      order.within (quad_eq q) (and_parts (under p q) (has quad_eq made q) (sym (has-filter quad_strict (under p) made q) ∙ e)).1

  in_under : (p : List ℕ) (q : Quad) → has quad_eq (quads_under p told) q ≡ true → has quad_eq told q ≡ true
  in_under p q e =
      (and_parts (under p q) (has quad_eq told q)
      (sym (has-filter quad_strict (under p) told q) ∙ any_set (quad_eq q) (on (λ r. r.object) term_cmp) (filter (under p) told) e)).1

  same_values : (d : List Quad) → AreHeld d quads → (p : List ℕ) → map (quad_value d) (filter (under p) made) ≡ map (quad_value d) (quads_under p told)
  same_values d held p =
      shared_map (quad_value d) (filter (under p) made) (quads_under p told) (same_objects p)
      (λ x y in_x in_y o.
      let a = in_told x (in_made p x in_x) in
      let b = in_told y (in_under p y in_y) in
      shared_objects d x y (held x a.1) (held y b.1) o a.0 b.0)

  pub same_props : (d : List Quad) → AreHeld d quads → gathered (quad_value d) made ≡ map (property_by (answers_of d) (enough d) told) (properties_in told)
  same_props d held =
      λ i. map (λ p. record { property = p; values = same_values d held p i }) (same_properties i)

-- a view by its parts
pub view_by_parts : (d : List Quad) (s : Term) (quads made : List Quad) (types : List Term) (props : List ViewProperty) → types ≡ types_in quads
    → InPropertyOrder quads made → AreHeld d quads → props ≡ gathered (quad_value d) made
    → (id : Term) → id ≡ s
    → record { id = id; types = types; props = props } ≡ view_from (answers_of d) (enough d) s quads
view_by_parts d s quads made types props told order held same id is =
    let all : props ≡ map (property_by (answers_of d) (enough d) (property_quads quads)) (properties_in (property_quads quads)) =
    same ∙ same_props quads made order d held in
    λ i. record { id = is i; types = told i; props = all i }

-- ---- the quads of a key are in the dataset, and its own

record Own (d : List Quad) (s : Term) (q : Quad) : Type 0 where
  there : holds d q ≡ true
  subject : q.subject ≡ s

own_of : (d : List Quad) (g : GraphRef) (s : Term) (q : Quad) → has quad_eq (quads_of (answers_of d) (enough d) g s) q ≡ true → Own d s q
own_of d graph.Default s q e =
    let parts = and_parts (lies_in graph.Default q && term_eq q.subject s) (holds d q) (sym (has-filter quad_strict (λ q. lies_in graph.Default q && term_eq q.subject s) d q) ∙ e) in
    record { there = parts.1; subject = (term_decides q.subject s).0 (and_parts (lies_in graph.Default q) (term_eq q.subject s) parts.0).1 }
own_of d (graph.Named name) s q e =
    let parts = and_parts (lies_in (graph.Named name) q && term_eq q.subject s) (holds d q) (sym (has-filter quad_strict (λ q. lies_in (graph.Named name) q && term_eq q.subject s) d q) ∙ e) in
    record { there = parts.1; subject = (term_decides q.subject s).0 (and_parts (lies_in (graph.Named name) q) (term_eq q.subject s) parts.0).1 }
own_of d graph.Merged s q e =
    let outer = and_parts (key_in (answers_of d) (enough d) (graph_of q) s) (has quad_eq (out_any d s) q)
    (sym (has-filter quad_strict (λ q. key_in (answers_of d) (enough d) (graph_of q) s) (out_any d s) q) ∙ e) in
    let parts = and_parts (term_eq q.subject s) (holds d q) (sym (has-filter quad_strict (λ q. term_eq q.subject s) d q) ∙ outer.1) in
    record { there = parts.1; subject = (term_decides q.subject s).0 parts.0 }

kept_some : (b : Bool) (own quads : List Quad) → Some quads ≡ kept_if b own → (b ≡ true) × (quads ≡ own)
kept_some true own quads e = (refl, cc)
kept_some false own quads e = absurd (cc)

kept_none : (b : Bool) (own : List Quad) → None ≡ kept_if b own → b ≡ false
kept_none true own e = absurd (cc)
kept_none false own e = refl

module _ (d : List Quad) (g : GraphRef) (s : Term) (quads : List Quad) (are : Some quads ≡ key_quads d g s) where
  both : (is_key d g s ≡ true) × (quads ≡ quads_of (answers_of d) (enough d) g s)
  both = kept_some (is_key d g s) (quads_of (answers_of d) (enough d) g s) quads are

  own_quad : (q : Quad) → has quad_eq quads q ≡ true → Own d s q
  own_quad q e = own_of d g s q (ap (λ (l : List Quad). has quad_eq l q) (sym both.1) ∙ e)

  pub key_held : AreHeld d quads
  key_held q e = (own_quad q e).there

  pub key_near : AreNear d s quads
  key_near q e =
      let own = own_quad q e in
      by_object q own.there (subst (λ (x : Term). Near d [] s x) (sym own.subject) itself)

  pub key_view : (view : View) → view ≡ view_from (answers_of d) (enough d) s quads → Some view ≡ view_of d g s
  key_view view same =
      ap Some (same ∙ ap (view_from (answers_of d) (enough d) s) both.1)
      ∙ ap (λ (b : Bool). if b then Some (view_from (answers_of d) (enough d) s (quads_of (answers_of d) (enough d) g s)) else None) (sym both.0)

pub no_key_view : (d : List Quad) (g : GraphRef) (s : Term) → None ≡ key_quads d g s → None ≡ view_of d g s
no_key_view d g s none =
    ap (λ (b : Bool). if b then Some (view_from (answers_of d) (enough d) s (quads_of (answers_of d) (enough d) g s)) else None)
    (sym (kept_none (is_key d g s) (quads_of (answers_of d) (enough d) g s) none))

-- the quads in order are near where all are
pub made_near : (d : List Quad) (x : Term) (quads made : List Quad) → InPropertyOrder quads made → AreNear d x quads → (lent : List Quad) → lent ≡ made → AreNear d x lent
made_near d x quads made order near lent same q e =
    near q (in_told quads made order q (order.within (quad_eq q) (ap (λ (l : List Quad). has quad_eq l q) (sym same) ∙ e))).1
