-- What the view of a node refers to is near the node.
use Rattle.std.proofs.Common.{◌≡◌, ℕ, zero, suc, Bool, true, false, not, ◌&&◌, ◌⊎◌, inl, inr, if◌then◌else◌, List, [], ◌∷◌, map, filter, Option, Some, None, refl, sym, subst, Ordering, Less, Equal, Greater}
use Rattle.std.specs.List.{list_any}
use Rattle.std.specs.Ordering.{on}
use Rattle.std.proofs.lemmas.Bool.{and_parts, or_left, or_right}
use Rattle.std.proofs.lemmas.Option.{none-some, same_Some}
use Rattle.lf_rdf.specs.declared.term.Term.{Term}
use Rattle.lf_rdf.specs.declared.term.Term.TheVariants.{Iri, Blank, Literal}
use Rattle.lf_rdf.specs.declared.quad.Quad.{Quad}
use Rattle.lf_rdf.specs.declared.question.GraphRef.{GraphRef}
use Rattle.lf_rdf.specs.declared.question.GraphRef.TheVariants as graph
use Rattle.lf_rdf.specs.Canonical.{id_of}
use Rattle.lf_rdf.specs.Vocabulary.{rdf_first, rdf_nil, rdf_rest}
use Rattle.lf_rdf.specs.Equality.{quad_eq, term_eq, text_eq}
use Rattle.lf_model.specs.ValueData.{ListValue, literal, reference, list, no_values, value, values_of}
use Rattle.lf_oracle.specs.Nearby.{IsOfNode}
use Rattle.def_datasets.specs.Sorted.{placed, put, put_all}
use Rattle.def_datasets.specs.Order.{term_cmp}
use Rattle.def_datasets.specs.Dataset.{holds}
use Rattle.def_datasets.specs.Terms.{is_iri, graph_of, lies_in}
use Rattle.def_datasets.specs.Questions.{answers_of, out, out_any}
use Rattle.def_datasets.specs.Cells.{cell_within, enough, item_of, object_of, rest_of, with_predicate}
use Rattle.def_datasets.specs.Rounds.{within}
use Rattle.def_datasets.specs.Values.{cell_or_reference, found, joined, settled, value_by, value_step, value_within}
use Rattle.def_datasets.specs.Near.{Near, itself, by_object}
use Rattle.def_datasets.specs.Views.{View, is_type_quad, key_by, key_in, properties_in, property_by, property_quads, quads_of, quads_under, view_from, view_of}
use Rattle.def_datasets.proofs.OrderLaws.{quad_decides, term_decides}
use Rattle.lf_match.specs.NearNodes.{AnyRefers, IsOfView, PropertiesRefer, Refers}

-- each quad of a list is so
abbrev Each : (Quad → Type 0) → List Quad → Type 0
Each P [] = Unit {0}
Each P (q ∷ rest) = P q × Each P rest

each_map : (P Q : Quad → Type 0) (xs : List Quad) → ((q : Quad) → P q → Q q) → Each P xs → Each Q xs
each_map P Q [] to each = tt
each_map P Q (x ∷ xs) to each = (to x each.0, each_map P Q xs to each.1)

each_filter : (P : Quad → Type 0) (p : Quad → Bool) (xs : List Quad) → Each P xs → Each (λ q. P q × (p q ≡ true)) (filter p xs)
each_filter P p [] each = tt
each_filter P p (x ∷ xs) each = go (p x) refl (each_filter P p xs each.1)
  where
    go : (b : Bool) → p x ≡ b → Each (λ q. P q × (p q ≡ true)) (filter p xs) → Each (λ q. P q × (p q ≡ true)) (filter p (x ∷ xs))
    go true e later = rw e ((each.0, e), later)
    go false e later = rw e later

each_put : (P : Quad → Type 0) (cmp : Quad → Quad → Ordering) (x : Quad) (xs : List Quad) → P x → Each P xs → Each P (put cmp x xs)
each_put P cmp x [] here each = (here, tt)
each_put P cmp x (y ∷ ys) here each = go (cmp x y) (each_put P cmp x ys here each.1)
  where
    go : (r : Ordering) → Each P (put cmp x ys) → Each P (placed r x y ys (put cmp x ys))
    go Less later = (here, each)
    go Equal later = each
    go Greater later = (each.0, later)

each_put_all : (P : Quad → Type 0) (cmp : Quad → Quad → Ordering) (xs ys : List Quad) → Each P xs → Each P ys → Each P (put_all cmp xs ys)
each_put_all P cmp xs [] each more = each
each_put_all P cmp xs (y ∷ ys) each more = each_put_all P cmp (put cmp y xs) ys (each_put P cmp y xs more.0 each) more.1

module _ (dataset : List Quad) (reversed : List (List ℕ)) (origin : Term) where
  -- a quad of the dataset with this subject
  abbrev Of : Term → Quad → Type 0
  Of s q = (holds dataset q ≡ true) × (q.subject ≡ s)

  each_holds : (xs : List Quad) → ((q : Quad) → list_any (quad_eq q) xs ≡ true → holds dataset q ≡ true) → Each (λ q. holds dataset q ≡ true) xs
  each_holds [] sub = tt
  each_holds (x ∷ xs) sub = (
    sub x (or_left (quad_eq x x) (list_any (quad_eq x) xs) ((quad_decides x x).1 refl)),
    each_holds xs (λ q e. sub q (or_right (quad_eq q x) (list_any (quad_eq q) xs) e)),
  )

  all_hold : Each (λ q. holds dataset q ≡ true) dataset
  all_hold = each_holds dataset (λ q e. e)

  out_of : (g : GraphRef) (s : Term) → Each (Of s) (out dataset g s)
  out_of g s =
      each_map (λ q. (holds dataset q ≡ true) × ((lies_in g q && term_eq q.subject s) ≡ true)) (Of s) (out dataset g s)
      (λ q both. (both.0, (term_decides q.subject s).0 (and_parts (lies_in g q) (term_eq q.subject s) both.1).1))
      (each_filter (λ q. holds dataset q ≡ true) (λ q. lies_in g q && term_eq q.subject s) dataset all_hold)

  out_any_of : (s : Term) → Each (Of s) (out_any dataset s)
  out_any_of s =
      each_map (λ q. (holds dataset q ≡ true) × (term_eq q.subject s ≡ true)) (Of s) (out_any dataset s)
      (λ q both. (both.0, (term_decides q.subject s).0 both.1))
      (each_filter (λ q. holds dataset q ≡ true) (λ q. term_eq q.subject s) dataset all_hold)

  quads_are_of : (n : ℕ) (g : GraphRef) (s : Term) → Each (Of s) (quads_of (answers_of dataset) n g s)
  quads_are_of n graph.Default s = out_of graph.Default s
  quads_are_of n (graph.Named name) s = out_of (graph.Named name) s
  quads_are_of n graph.Merged s =
      each_map (λ q. Of s q × (key_in (answers_of dataset) n (graph_of q) s ≡ true)) (Of s) (quads_of (answers_of dataset) n graph.Merged s)
      (λ q both. both.0)
      (each_filter (Of s) (λ q. key_in (answers_of dataset) n (graph_of q) s) (out_any dataset s) (out_any_of s))

  object_near : (s : Term) (q : Quad) → Near dataset reversed origin s → Of s q → Near dataset reversed origin q.object
  object_near s q near of = by_object q of.0 (subst (λ t. Near dataset reversed origin t) (sym of.1) near)

  -- the object of the first quad
  first_object : (s o : Term) (xs : List Quad) → Near dataset reversed origin s → Each (Of s) xs → object_of xs ≡ Some o → Near dataset reversed origin o
  first_object s o [] near each e = absurd (none-some o e)
  first_object s o (q ∷ rest) near each e = subst (λ t. Near dataset reversed origin t) (same_Some q.object o e) (object_near s q near each.0)

  under_of : (iri : List ℕ) (g : GraphRef) (s : Term) → Each (Of s) (with_predicate iri (out dataset g s))
  under_of iri g s =
      each_map (λ q. Of s q × (is_iri iri q.predicate ≡ true)) (Of s) (with_predicate iri (out dataset g s)) (λ q both. both.0)
      (each_filter (Of s) (λ q. is_iri iri q.predicate) (out dataset g s) (out_of g s))

  -- what a value refers to is near
  abbrev RefersNear : ListValue → Type 0
  RefersNear v = (x : Term) → Refers v x → Near dataset reversed origin x

  found_near : (self : Term → Option ListValue) → ((o : Term) (v : ListValue) → Near dataset reversed origin o → self o ≡ Some v → RefersNear v) →
      (o : Option Term) → ((t : Term) → o ≡ Some t → Near dataset reversed origin t) → (v : ListValue) → found self o ≡ Some v → RefersNear v
  found_near self later None near v e = absurd (none-some v e)
  found_near self later (Some t) near v e = later t v (near t refl) e

  joined_near : (one two : Option ListValue) → ((i : ListValue) → one ≡ Some i → RefersNear i) → ((r : ListValue) → two ≡ Some r → RefersNear r) →
      (v : ListValue) → joined one two ≡ Some v → RefersNear v
  joined_near None two first second v e = absurd (none-some v e)
  joined_near (Some i) None first second v e = absurd (none-some v e)
  joined_near (Some i) (Some (literal term)) first second v e = absurd (none-some v e)
  joined_near (Some i) (Some (reference term)) first second v e = absurd (none-some v e)
  joined_near (Some i) (Some (list items)) first second v e =
      subst (λ w. RefersNear w) (same_Some (list (value i items)) v e)
      (λ x refers. pick x refers)
    where
      pick : (x : Term) → Refers i x ⊎ AnyRefers items x → Near dataset reversed origin x
      pick x (inl refers) = first i refl x refers
      pick x (inr refers) = second (list items) refl x refers

  one_near : (o : Term) → Near dataset reversed origin o → RefersNear (reference o)
  one_near o near x same = subst (λ t. Near dataset reversed origin t) (sym same) near

  value_near : (g : GraphRef) (cell : Term → Bool) (k : ℕ) (o : Term) (v : ListValue) → Near dataset reversed origin o →
      within (value_step (answers_of dataset) g cell) k o ≡ Some v → RefersNear v
  value_near g cell zero o v near e = absurd (none-some v e)
  value_near g cell (suc k) (Literal lexical datatype language) v near e =
      subst (λ w. RefersNear w) (same_Some (literal (Literal lexical datatype language)) v e) (λ x none. absurd none)
  value_near g cell (suc k) (Iri iri) v near e =
      subst (λ w. RefersNear w) (same_Some (if text_eq rdf_nil iri then list no_values else reference (Iri iri)) v e) (go (text_eq rdf_nil iri))
    where
      go : (b : Bool) → RefersNear (if b then list no_values else reference (Iri iri))
      go true = λ x none. absurd none
      go false = one_near (Iri iri) near
  value_near g cell (suc k) (Blank label) v near e = go (cell (Blank label)) (value_near g cell k) e
    where
      go : (b : Bool) → ((o : Term) (v : ListValue) → Near dataset reversed origin o → within (value_step (answers_of dataset) g cell) k o ≡ Some v → RefersNear v) →
          cell_or_reference b (answers_of dataset) g (within (value_step (answers_of dataset) g cell) k) (Blank label) ≡ Some v → RefersNear v
      go true later e =
          joined_near (found (within (value_step (answers_of dataset) g cell) k) (item_of (answers_of dataset) g (Blank label)))
          (found (within (value_step (answers_of dataset) g cell) k) (rest_of (answers_of dataset) g (Blank label)))
          (found_near (within (value_step (answers_of dataset) g cell) k) later (item_of (answers_of dataset) g (Blank label))
          (λ t at. first_object (Blank label) t (with_predicate rdf_first (out dataset g (Blank label))) near (under_of rdf_first g (Blank label)) at))
          (found_near (within (value_step (answers_of dataset) g cell) k) later (rest_of (answers_of dataset) g (Blank label))
          (λ t at. first_object (Blank label) t (with_predicate rdf_rest (out dataset g (Blank label))) near (under_of rdf_rest g (Blank label)) at))
          v e
      go false later e = subst (λ w. RefersNear w) (same_Some (reference (Blank label)) v e) (one_near (Blank label) near)

  settled_near : (o : Term) (found : Option ListValue) → Near dataset reversed origin o → ((v : ListValue) → found ≡ Some v → RefersNear v) →
      RefersNear (settled o found)
  settled_near o None near later = one_near o near
  settled_near o (Some v) near later = later v refl

  object_value_near : (n : ℕ) (g : GraphRef) (o : Term) → Near dataset reversed origin o → RefersNear (value_by (answers_of dataset) n g o)
  object_value_near n g o near =
      settled_near o (value_within (answers_of dataset) g n o) near
      (λ v e. value_near g (cell_within (answers_of dataset) g n) n o v near e)

  objects_near : (n : ℕ) (s : Term) (qs : List Quad) → Near dataset reversed origin s → Each (Of s) qs → (x : Term) →
      AnyRefers (values_of (map (λ q. value_by (answers_of dataset) n (graph_of q) q.object) qs)) x → Near dataset reversed origin x
  objects_near n s [] near each x none = absurd none
  objects_near n s (q ∷ rest) near each x (inl refers) =
      object_value_near n (graph_of q) q.object (object_near s q near each.0) x refers
  objects_near n s (q ∷ rest) near each x (inr refers) = objects_near n s rest near each.1 x refers

  under_set : (s : Term) (property : List ℕ) (told : List Quad) → Each (Of s) told → Each (Of s) (quads_under property told)
  under_set s property told each =
      each_put_all (Of s) (on (λ q. q.object) term_cmp) [] (filter (λ q. text_eq property (id_of q.predicate)) told) tt
      (each_map (λ q. Of s q × (text_eq property (id_of q.predicate) ≡ true)) (Of s) (filter (λ q. text_eq property (id_of q.predicate)) told) (λ q both. both.0)
      (each_filter (Of s) (λ q. text_eq property (id_of q.predicate)) told each))

  properties_near : (n : ℕ) (s : Term) (told : List Quad) (names : List (List ℕ)) → Near dataset reversed origin s → Each (Of s) told → (x : Term) →
      PropertiesRefer (map (property_by (answers_of dataset) n told) names) x → Near dataset reversed origin x
  properties_near n s told [] near each x none = absurd none
  properties_near n s told (first ∷ rest) near each x (inl refers) =
      objects_near n s (quads_under first told) near (under_set s first told each) x refers
  properties_near n s told (first ∷ rest) near each x (inr refers) = properties_near n s told rest near each x refers

  view_from_near : (n : ℕ) (s : Term) (quads : List Quad) → Near dataset reversed origin s → Each (Of s) quads → (x : Term) →
      PropertiesRefer (view_from (answers_of dataset) n s quads).props x → Near dataset reversed origin x
  view_from_near n s quads near each x refers =
      properties_near n s (property_quads quads) (properties_in (property_quads quads)) near
      (each_map (λ q. Of s q × (not (is_type_quad q) ≡ true)) (Of s) (property_quads quads) (λ q both. both.0)
      (each_filter (Of s) (λ q. not (is_type_quad q)) quads each)) x refers

-- what the view of a node refers to is near the node
pub view_refs_near :
    (dataset : List Quad) (reversed : List (List ℕ)) (g : GraphRef) (s : Term) (view : View) → Some view ≡ view_of dataset g s → (x : Term) →
    PropertiesRefer view.props x → Near dataset reversed s x
view_refs_near dataset reversed g s view seen = go (key_by (answers_of dataset) (enough dataset) g s) seen
  where
    made : View
    made = view_from (answers_of dataset) (enough dataset) s (quads_of (answers_of dataset) (enough dataset) g s)

    go : (b : Bool) → Some view ≡ (if b then Some made else None) → (x : Term) → PropertiesRefer view.props x → Near dataset reversed s x
    go true e x refers =
        view_from_near dataset reversed s (enough dataset) s (quads_of (answers_of dataset) (enough dataset) g s) itself
        (quads_are_of dataset reversed s (enough dataset) g s) x (subst (λ v. PropertiesRefer v.props x) (same_Some view made e) refers)
    go false e x refers = absurd (none-some view (sym e))

-- a term that a view refers to, or the graph's name, is near the node or the name
pub view_reaches :
    (dataset : List Quad) (reversed : List (List ℕ)) (g : GraphRef) (s : Term) (view : View) → Some view ≡ view_of dataset g s → (x : Term) →
    IsOfView g view x → (y : Term) × (IsOfNode g s y × Near dataset reversed y x)
view_reaches dataset reversed g s view seen x (inl refers) = (s, (inl refl, view_refs_near dataset reversed g s view seen x refers))
view_reaches dataset reversed g s view seen x (inr names) = (x, (inr names, itself))
