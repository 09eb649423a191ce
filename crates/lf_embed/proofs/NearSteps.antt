-- The keys of a graph are near its name, and those that point at a node by a reverse property are near the node.
use Rattle.std.proofs.Common.{◌≡◌, ◌⊎◌, inl, inr, ℕ, Bool, true, false, not, ◌&&◌, if◌then◌else◌, List, [], ◌∷◌, ◌++◌, filter, Option, Some, None, refl, sym, ap, subst, ◌∙◌, Ordering, Less, Equal, Greater}
use Rattle.std.specs.Bool.{IsTrue}
use Rattle.std.specs.List.{flat_map, list_all, list_any}
use Rattle.std.proofs.lemmas.Bool.{and_parts, false≢true, or_left, or_right, or_cases}
use Rattle.lf_rdf.specs.declared.term.Term.{Term}
use Rattle.lf_rdf.specs.declared.term.Term.TheVariants.{Iri, Blank, Literal}
use Rattle.lf_rdf.specs.declared.quad.Quad.{Quad}
use Rattle.lf_rdf.specs.declared.question.GraphRef.{GraphRef}
use Rattle.lf_rdf.specs.declared.question.GraphRef.TheVariants as graph
use Rattle.lf_rdf.specs.Canonical.{id_of}
use Rattle.lf_rdf.specs.Equality.{option_eq, quad_eq, term_eq, text_eq}
use Rattle.def_datasets.specs.Dataset.{holds}
use Rattle.def_datasets.specs.Near.{Near, by_reverse, in_graph, in_graph_object, itself}
use Rattle.def_datasets.specs.Order.{id_cmp}
use Rattle.def_datasets.specs.Questions.{inward, members, nodes_in}
use Rattle.def_datasets.specs.Sorted.{placed, put, put_all}
use Rattle.def_datasets.specs.Terms.{graph_of, is_blank, is_iri, is_node, lies_in, tells_type}
use Rattle.def_datasets.specs.ViewLaws.{points}
use Rattle.def_datasets.specs.Views.{is_key, is_reference_to, is_type_quad, keys, pointing}
use Rattle.def_datasets.specs.Values.{value_of}
use Rattle.def_datasets.proofs.OrderLaws.{quad_decides, term_decides}
use Rattle.def_datasets.proofs.PointingProofs.{pointing_is_told}
use Rattle.lf_embed.specs.Embeds.{has_iri_predicates}

-- each value of a list is so
abbrev Each : {A : Type 0} → (A → Type 0) → List A → Type 0
Each P [] = Unit {0}
Each P (x ∷ xs) = P x × Each P xs

module _ {A : Type 0} (P : A → Type 0) where
  each_filter : (p : A → Bool) (xs : List A) → Each P xs → Each (λ x. P x × (p x ≡ true)) (filter p xs)
  each_filter p [] each = tt
  each_filter p (x ∷ xs) each = go (p x) refl (each_filter p xs each.1)
    where
      go : (b : Bool) → p x ≡ b → Each (λ y. P y × (p y ≡ true)) (filter p xs) → Each (λ y. P y × (p y ≡ true)) (filter p (x ∷ xs))
      go true e later = rw e ((each.0, e), later)
      go false e later = rw e later

  each_put : (cmp : A → A → Ordering) (x : A) (xs : List A) → P x → Each P xs → Each P (put cmp x xs)
  each_put cmp x [] here each = (here, tt)
  each_put cmp x (y ∷ ys) here each = go (cmp x y) (each_put cmp x ys here each.1)
    where
      go : (r : Ordering) → Each P (put cmp x ys) → Each P (placed r x y ys (put cmp x ys))
      go Less later = (here, each)
      go Equal later = each
      go Greater later = (each.0, later)

  each_put_all : (cmp : A → A → Ordering) (xs ys : List A) → Each P xs → Each P ys → Each P (put_all cmp xs ys)
  each_put_all cmp xs [] each more = each
  each_put_all cmp xs (y ∷ ys) each more = each_put_all cmp (put cmp y xs) ys (each_put cmp y xs more.0 each) more.1

  each_append : (xs ys : List A) → Each P xs → Each P ys → Each P (xs ++ ys)
  each_append [] ys each more = more
  each_append (x ∷ xs) ys each more = (each.0, each_append xs ys each.1 more)

  each_any : (p : A → Bool) (xs : List A) → list_any p xs ≡ true → Each P xs → (x : A) × (P x × (p x ≡ true))
  each_any p [] e each = absurd (false≢true e)
  each_any p (x ∷ xs) e each = go (or_cases (p x) (list_any p xs) e) (λ there. each_any p xs there each.1)
    where
      go : (p x ≡ true) ⊎ (list_any p xs ≡ true) → (list_any p xs ≡ true → (y : A) × (P y × (p y ≡ true))) → (y : A) × (P y × (p y ≡ true))
      go (inl here) later = (x, (each.0, here))
      go (inr there) later = later there

each_flat_map : {A B : Type 0} (P : A → Type 0) (Q : B → Type 0) (f : A → List B) (xs : List A) → ((x : A) → P x → Each Q (f x)) → Each P xs → Each Q (flat_map f xs)
each_flat_map P Q f [] to each = tt
each_flat_map P Q f (x ∷ xs) to each = each_append Q (f x) (flat_map f xs) (to x each.0) (each_flat_map P Q f xs to each.1)

each_both : {A : Type 0} (P : A → Type 0) (p : A → Bool) (xs : List A) → Each P xs → list_all p xs ≡ true → Each (λ x. P x × (p x ≡ true)) xs
each_both P p [] each all = tt
each_both P p (x ∷ xs) each all =
    ((each.0, (and_parts (p x) (list_all p xs) all).0), each_both P p xs each.1 (and_parts (p x) (list_all p xs) all).1)

module _ (dataset : List Quad) where
  each_holds : (xs : List Quad) → ((q : Quad) → list_any (quad_eq q) xs ≡ true → holds dataset q ≡ true) → Each (λ q. holds dataset q ≡ true) xs
  each_holds [] sub = tt
  each_holds (x ∷ xs) sub = (
    sub x (or_left (quad_eq x x) (list_any (quad_eq x) xs) ((quad_decides x x).1 refl)),
    each_holds xs (λ q e. sub q (or_right (quad_eq q x) (list_any (quad_eq q) xs) e)),
  )

  all_hold : Each (λ q. holds dataset q ≡ true) dataset
  all_hold = each_holds dataset (λ q e. e)

-- ---- the members of a named graph

label_is : (name : Term) (label : Option Term) → option_eq term_eq (Some name) label ≡ true → label ≡ Some name
label_is name None e = absurd (false≢true e)
label_is name (Some other) e = ap Some (sym ((term_decides name other).0 e))

node_near :
    (dataset : List Quad) (reversed : List (List ℕ)) (name : Term) (q : Quad) → (holds dataset q ≡ true) × (lies_in (graph.Named name) q ≡ true) →
    Each (λ x. Near dataset reversed name x) (nodes_in q)
node_near dataset reversed name q there = subject (is_node q.subject) refl
  where
    labelled : q.graph ≡ Some name
    labelled = label_is name q.graph there.1

    object : (b : Bool) → is_node q.object ≡ b → Each (λ x. Near dataset reversed name x) (if b then q.object ∷ [] else [])
    object true e = (in_graph_object name q there.0 labelled itself e, tt)
    object false e = tt

    told : (b : Bool) → Each (λ x. Near dataset reversed name x) (filter is_node (if b then [] else q.object ∷ []))
    told true = tt
    told false = object (is_node q.object) refl

    subject : (b : Bool) → is_node q.subject ≡ b → Each (λ x. Near dataset reversed name x) (nodes_in q)
    subject true e = rw e (in_graph name q there.0 labelled itself e, told (tells_type q))
    subject false e = rw e (told (tells_type q))

members_near :
    (dataset : List Quad) (reversed : List (List ℕ)) (name : Term) →
    Each (λ x. Near dataset reversed name x) (members dataset (graph.Named name))
members_near dataset reversed name =
    each_put_all (λ x. Near dataset reversed name x) id_cmp [] (flat_map nodes_in (filter (lies_in (graph.Named name)) dataset) ++ []) tt
    (each_append (λ x. Near dataset reversed name x) (flat_map nodes_in (filter (lies_in (graph.Named name)) dataset)) []
    (each_flat_map (λ q. (holds dataset q ≡ true) × (lies_in (graph.Named name) q ≡ true)) (λ x. Near dataset reversed name x) nodes_in
    (filter (lies_in (graph.Named name)) dataset) (node_near dataset reversed name)
    (each_filter (λ q. holds dataset q ≡ true) (lies_in (graph.Named name)) dataset (all_hold dataset))) tt)

one_of :
    (P : Term → Type 0) (x : Term) (xs : List Term) → list_any (term_eq x) xs ≡ true → Each P xs → P x
one_of P x xs e each =
    let (y, (near, same)) = each_any P (term_eq x) xs e each in subst P (sym ((term_decides x y).0 same)) near

pub member_is_near :
    (dataset : List Quad) (reversed : List (List ℕ)) (name x : Term) → list_any (term_eq x) (members dataset (graph.Named name)) ≡ true →
    Near dataset reversed name x
member_is_near dataset reversed name x e = one_of (λ y. Near dataset reversed name y) x (members dataset (graph.Named name)) e (members_near dataset reversed name)

any_of_filter : {A : Type 0} (p r : A → Bool) (xs : List A) → list_any p (filter r xs) ≡ true → list_any p xs ≡ true
any_of_filter p r [] e = e
any_of_filter p r (x ∷ xs) e = go (r x) refl (λ there. any_of_filter p r xs there)
  where
    go : (b : Bool) → r x ≡ b → (list_any p (filter r xs) ≡ true → list_any p xs ≡ true) → list_any p (x ∷ xs) ≡ true
    go true same later =
        elim (or_cases (p x) (list_any p (filter r xs)) (subst (λ b. list_any p (if b then x ∷ filter r xs else filter r xs) ≡ true) same e)) [
          | inl here ↦ or_left (p x) (list_any p xs) here
          | inr there ↦ or_right (p x) (list_any p xs) (later there)
        ]
    go false same later = or_right (p x) (list_any p xs) (later (subst (λ b. list_any p (if b then x ∷ filter r xs else filter r xs) ≡ true) same e))

-- a key of a named graph is near its name
pub key_is_near :
    (dataset : List Quad) (reversed : List (List ℕ)) (name x : Term) → list_any (term_eq x) (keys dataset (graph.Named name)) ≡ true →
    Near dataset reversed name x
key_is_near dataset reversed name x e =
    member_is_near dataset reversed name x (any_of_filter (term_eq x) (is_key dataset (graph.Named name)) (members dataset (graph.Named name)) e)

-- ---- what points at a node

-- the subject of a quad that has the node under a reverse property
pub subject_is_near :
    (dataset : List Quad) (reversed : List (List ℕ)) (g : GraphRef) (property : List ℕ) (id x : Term) →
    ((p : List ℕ → Bool) → p property ≡ true → list_any p reversed ≡ true) →
    list_any (λ q. term_eq q.subject x) (inward dataset g (Iri property) id) ≡ true → Near dataset reversed id x
subject_is_near dataset reversed g property id x told e =
    let (q, ((there, found), same)) =
    each_any (λ q. (holds dataset q ≡ true) × ((lies_in g q && (term_eq q.predicate (Iri property) && term_eq q.object id)) ≡ true))
    (λ q. term_eq q.subject x) (inward dataset g (Iri property) id) e
    (each_filter (λ q. holds dataset q ≡ true) (λ q. lies_in g q && (term_eq q.predicate (Iri property) && term_eq q.object id)) dataset (all_hold dataset))
    in
    let both = (and_parts (lies_in g q) (term_eq q.predicate (Iri property) && term_eq q.object id) found).1 in
    let parts = and_parts (term_eq q.predicate (Iri property)) (term_eq q.object id) both in
    subst (λ y. Near dataset reversed id y) ((term_decides q.subject x).0 same)
    (by_reverse q there
    (told (λ iri. is_iri iri q.predicate)
    (subst (λ p. is_iri property p ≡ true) (sym ((term_decides q.predicate (Iri property)).0 parts.0)) ((term_decides (Iri property) (Iri property)).1 refl)))
    (subst (λ y. Near dataset reversed id y) (sym ((term_decides q.object id).0 parts.1)) itself))

iri_is : (property : List ℕ) (predicate : Term) → (is_node predicate && not (is_blank predicate)) ≡ true → text_eq property (id_of predicate) ≡ true → is_iri property predicate ≡ true
iri_is property (Iri iri) node e = e
iri_is property (Blank label) node e = absurd (false≢true node)
iri_is property (Literal lexical datatype language) node e = absurd (false≢true node)

-- a key that points at the node by a reverse property
pub pointing_is_near :
    (dataset : List Quad) (reversed : List (List ℕ)) (g : GraphRef) (property : List ℕ) (id x : Term) →
    ((p : List ℕ → Bool) → p property ≡ true → list_any p reversed ≡ true) → IsTrue (has_iri_predicates dataset) →
    list_any (term_eq x) (pointing dataset g property id) ≡ true → Near dataset reversed id x
pointing_is_near dataset reversed g property id x told iris e =
    let (q, ((there, iri), shown)) =
    each_any (λ q. (holds dataset q ≡ true) × ((is_node q.predicate && not (is_blank q.predicate)) ≡ true))
    (points dataset g property id x) dataset (sym (pointing_is_told dataset g property id x) ∙ e)
    (each_both (λ q. holds dataset q ≡ true) (λ q. is_node q.predicate && not (is_blank q.predicate)) dataset (all_hold dataset) iris)
    in
    let a = and_parts (lies_in g q) (term_eq q.subject x && (is_key dataset (graph_of q) x && (not (is_type_quad q) && (text_eq property (id_of q.predicate) && (term_eq q.object id && is_reference_to id (value_of dataset (graph_of q) id)))))) shown in
    let b = and_parts (term_eq q.subject x) (is_key dataset (graph_of q) x && (not (is_type_quad q) && (text_eq property (id_of q.predicate) && (term_eq q.object id && is_reference_to id (value_of dataset (graph_of q) id))))) a.1 in
    let c = and_parts (is_key dataset (graph_of q) x) (not (is_type_quad q) && (text_eq property (id_of q.predicate) && (term_eq q.object id && is_reference_to id (value_of dataset (graph_of q) id)))) b.1 in
    let d = and_parts (not (is_type_quad q)) (text_eq property (id_of q.predicate) && (term_eq q.object id && is_reference_to id (value_of dataset (graph_of q) id))) c.1 in
    let f = and_parts (text_eq property (id_of q.predicate)) (term_eq q.object id && is_reference_to id (value_of dataset (graph_of q) id)) d.1 in
    let h = and_parts (term_eq q.object id) (is_reference_to id (value_of dataset (graph_of q) id)) f.1 in
    subst (λ y. Near dataset reversed id y) ((term_decides q.subject x).0 b.0)
    (by_reverse q there (told (λ iri. is_iri iri q.predicate) (iri_is property q.predicate iri f.0))
    (subst (λ y. Near dataset reversed id y) (sym ((term_decides q.object id).0 h.0)) itself))
