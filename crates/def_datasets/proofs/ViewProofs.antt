-- The laws of keys and views.
use Rattle.std.proofs.Common.{◌≡◌, refl, sym, ◌∙◌, ap, subst, ℕ, ◌≤◌, ◌⊎◌, inl, inr, List, [], ◌∷◌, ◌++◌, map, length, filter, flat_map, cond, if◌then◌else◌, Bool, true, false, not, ◌&&◌, ◌||◌, ⊎_elim, Option, Some, None, is_some, IsTrue, arith}
use Rattle.std.specs.List.{list_any}
use Rattle.std.proofs.lemmas.Bool.{false≢true, and_parts, and_from, or_cases, or_left, or_right}
use Rattle.lf_rdf.specs.declared.term.Term.{Term}
use Rattle.lf_rdf.specs.declared.quad.Quad.{Quad}
use Rattle.lf_rdf.specs.declared.question.GraphRef.{GraphRef}
use Rattle.lf_rdf.specs.declared.question.GraphRef.TheVariants as graph
use Rattle.lf_rdf.specs.Vocabulary.{rdf_nil}
use Rattle.lf_rdf.specs.Equality.{term_eq, option_eq}
use Rattle.def_datasets.specs.Sorted.{has, set_of, ascends}
use Rattle.def_datasets.specs.Order.{id_cmp}
use Rattle.def_datasets.specs.Terms.{is_node, is_iri, tells_type, lies_in, graph_named, graph_of, label_terms, names, is_use, uses}
use Rattle.def_datasets.specs.Questions.{Answers, answers_of, out, out_any, named, nodes_in, names_in, members}
use Rattle.def_datasets.specs.Cells.{cell_within, enough}
use Rattle.def_datasets.specs.Values.{value_by, settled}
use Rattle.def_datasets.specs.Views.{is_some_quad, is_default, key_in, graphs_with, key_by, members_by, keys_by, types_in, property_quads, properties_in, quads_under, property_by, view_from, quads_of, view_by, refers, pointing_by, is_key}
use Rattle.def_datasets.specs.ViewLaws.{KeysAreListed, KeysInOrder, MergedKeys, KeysHaveViews, ViewStepsSuffice}
use Rattle.def_datasets.proofs.Bools.{same_truth, and_true}
use Rattle.def_datasets.proofs.SortedLaws.{ascends-filter, ascends-set_of, has-filter, has-put_all}
use Rattle.def_datasets.proofs.OrderLaws.{term_decides, id_strict}
use Rattle.def_datasets.proofs.QuestionProofs.{any-append}
use Rattle.def_datasets.proofs.CellProofs.{cell_rounds}
use Rattle.def_datasets.proofs.ValueProofs.{steps_suffice_here}

-- ---- some value of a list passes

module _ {A : Type 0} where
  pub any_mono : (p q : A → Bool) → ((x : A) → p x ≡ true → q x ≡ true) → (xs : List A) → list_any p xs ≡ true → list_any q xs ≡ true
  any_mono p q f [] e = e
  any_mono p q f (x ∷ xs) e =
      ⊎_elim (λ h. or_left (q x) (list_any q xs) (f x h)) (λ h. or_right (q x) (list_any q xs) (any_mono p q f xs h)) (or_cases (p x) (list_any p xs) e)

  any_filter_case : (p r : A → Bool) (x : A) (xs : List A) (b : Bool) → r x ≡ b
      → list_any p (filter r xs) ≡ list_any (λ y. r y && p y) xs
      → list_any p (cond b (x ∷ filter r xs) (filter r xs)) ≡ ((r x && p x) || list_any (λ y. r y && p y) xs)
  any_filter_case p r x xs true e ih = (λ i. p x || ih i) ∙ (λ i. (sym e i && p x) || list_any (λ y. r y && p y) xs)
  any_filter_case p r x xs false e ih = ih ∙ (λ i. (sym e i && p x) || list_any (λ y. r y && p y) xs)

  pub any-filter : (p r : A → Bool) (xs : List A) → list_any p (filter r xs) ≡ list_any (λ y. r y && p y) xs
  any-filter p r [] = refl
  any-filter p r (x ∷ xs) = any_filter_case p r x xs (r x) refl (any-filter p r xs)

  any-flat_map : {B : Type 0} (p : B → Bool) (f : A → List B) (xs : List A) → list_any p (flat_map f xs) ≡ list_any (λ x. list_any p (f x)) xs
  any-flat_map p f [] = refl
  any-flat_map p f (x ∷ xs) = any-append p (f x) (flat_map f xs) ∙ ap (λ (w : Bool). list_any p (f x) || w) (any-flat_map p f xs)

  pub any-map : {B : Type 0} (p : B → Bool) (f : A → B) (xs : List A) → list_any p (map f xs) ≡ list_any (λ x. p (f x)) xs
  any-map p f [] = refl
  any-map p f (x ∷ xs) = ap (λ (w : Bool). p (f x) || w) (any-map p f xs)

  pub any_found : (p : A → Bool) (xs : List A) → list_any p xs ≡ true → (x : A) × (p x ≡ true) × ((q : A → Bool) → q x ≡ true → list_any q xs ≡ true)
  any_found p [] e = absurd (false≢true e)
  any_found p (x ∷ xs) e = go (or_cases (p x) (list_any p xs) e) (any_found p xs)
    where
      go : ((p x ≡ true) ⊎ (list_any p xs ≡ true))
          → (list_any p xs ≡ true → (y : A) × (p y ≡ true) × ((q : A → Bool) → q y ≡ true → list_any q xs ≡ true))
          → (y : A) × (p y ≡ true) × ((q : A → Bool) → q y ≡ true → (q x || list_any q xs) ≡ true)
      go (inl h) ih = (x, h, λ q k. or_left (q x) (list_any q xs) k)
      go (inr h) ih =
          let (y, a, b) = ih h in
          (y, a, λ q k. or_right (q x) (list_any q xs) (b q k))

some_quad_case : (r : Quad → Bool) (q : Quad) (xs : List Quad) (b : Bool) → r q ≡ b → is_some_quad (filter r xs) ≡ list_any r xs
    → is_some_quad (cond b (q ∷ filter r xs) (filter r xs)) ≡ (r q || list_any r xs)
some_quad_case r q xs true e ih = λ i. sym e i || list_any r xs
some_quad_case r q xs false e ih = ih ∙ (λ i. sym e i || list_any r xs)

some-filter : (r : Quad → Bool) (xs : List Quad) → is_some_quad (filter r xs) ≡ list_any r xs
some-filter r [] = refl
some-filter r (q ∷ xs) = some_quad_case r q xs (r q) refl (some-filter r xs)

or_false : (a : Bool) → (a || false) ≡ a
or_false true = refl
or_false false = refl

-- ---- members

in_set : (xs : List Term) (t : Term) → has term_eq (set_of id_cmp xs) t ≡ has term_eq xs t
in_set xs t = has-put_all id_strict [] xs t ∙ or_false (has term_eq xs t)

in_members : (dataset : List Quad) (g : GraphRef) (t : Term)
    → has term_eq (members dataset g) t
    ≡ (list_any (λ q. lies_in g q && has term_eq (nodes_in q) t) dataset || has term_eq (names_in dataset g) t)
in_members dataset g t =
    in_set (flat_map nodes_in (filter (lies_in g) dataset) ++ names_in dataset g) t
    ∙ (any-append (term_eq t) (flat_map nodes_in (filter (lies_in g) dataset)) (names_in dataset g)
    ∙ ap (λ (w : Bool). w || has term_eq (names_in dataset g) t)
    (any-flat_map (term_eq t) nodes_in (filter (lies_in g) dataset) ∙ any-filter (λ q. has term_eq (nodes_in q) t) (lies_in g) dataset))

in_names : (dataset : List Quad) (t : Term) → has term_eq (names dataset) t ≡ list_any (λ q. has term_eq (label_terms q.graph) t) dataset
in_names dataset t = in_set (flat_map (λ q. label_terms q.graph) dataset) t ∙ any-flat_map (term_eq t) (λ q. label_terms q.graph) dataset

label_of : (name : Term) (label : Option Term) → option_eq term_eq (Some name) label ≡ true → has term_eq (label_terms label) name ≡ true
label_of name None e = absurd (false≢true e)
label_of name (Some other) e = or_left (term_eq name other) false e

name_is_listed : (dataset : List Quad) (name : Term) → named dataset name ≡ true → has term_eq (names dataset) name ≡ true
name_is_listed dataset name e =
    in_names dataset name
    ∙ any_mono (lies_in (graph.Named name)) (λ q. has term_eq (label_terms q.graph) name) (λ q h. label_of name q.graph h) dataset e

subject_in : (q : Quad) (t : Term) → is_node t ≡ true → term_eq q.subject t ≡ true → has term_eq (nodes_in q) t ≡ true
subject_in q t n e =
    let told : term_eq t q.subject ≡ true = (term_decides t q.subject).1 (sym ((term_decides q.subject t).0 e)) in
    let all : List Term = q.subject ∷ (if tells_type q then [] else q.object ∷ []) in
    has-filter id_strict is_node (q.subject ∷ (if tells_type q then [] else q.object ∷ [])) t
    ∙ and_from (is_node t) (has term_eq all t) n (or_left (term_eq t q.subject) (has term_eq (if tells_type q then [] else q.object ∷ []) t) told)

object_case : (q : Quad) (t : Term) (r : Bool) → not r ≡ true → term_eq t q.object ≡ true → has term_eq (if r then [] else q.object ∷ []) t ≡ true
object_case q t true n e = absurd (false≢true n)
object_case q t false n e = or_left (term_eq t q.object) false e

object_in : (q : Quad) (t : Term) → is_node t ≡ true → is_use t q ≡ true → has term_eq (nodes_in q) t ≡ true
object_in q t n e =
    let parts : (term_eq q.object t ≡ true) × (not (tells_type q) ≡ true) = and_parts (term_eq q.object t) (not (tells_type q)) e in
    let told : term_eq t q.object ≡ true = (term_decides t q.object).1 (sym ((term_decides q.object t).0 parts.0)) in
    let all : List Term = q.subject ∷ (if tells_type q then [] else q.object ∷ []) in
    has-filter id_strict is_node (q.subject ∷ (if tells_type q then [] else q.object ∷ [])) t
    ∙ and_from (is_node t) (has term_eq all t) n
    (or_right (term_eq t q.subject) (has term_eq (if tells_type q then [] else q.object ∷ []) t) (object_case q t (tells_type q) parts.1 told))

-- ---- keys are members

-- what a key of one graph is: a node that is a subject or used there, or the name of a graph
pub record KeyCause (dataset : List Quad) (g : GraphRef) (s : Term) : Type 0 where
  pub node : is_node s ≡ true
  pub cause : (list_any (λ q. lies_in g q && term_eq q.subject s) dataset || (list_any (λ q. lies_in g q && is_use s q) dataset || (is_default g && named dataset s))) ≡ true

used_in : (dataset : List Quad) (g : GraphRef) (s : Term) → list_any (lies_in g) (uses dataset s) ≡ true → list_any (λ q. lies_in g q && is_use s q) dataset ≡ true
used_in dataset g s e =
    any_mono (λ q. is_use s q && lies_in g q) (λ q. lies_in g q && is_use s q)
    (λ q h. let p : (is_use s q ≡ true) × (lies_in g q ≡ true) = and_parts (is_use s q) (lies_in g q) h in and_from (lies_in g q) (is_use s q) p.1 p.0)
    dataset (sym (any-filter (lies_in g) (is_use s) dataset) ∙ e)

key_cause : (dataset : List Quad) (n : ℕ) (g : GraphRef) (s : Term) → key_in (answers_of dataset) n g s ≡ true → KeyCause dataset g s
key_cause dataset n g s e =
    let A : Answers = answers_of dataset in
    let B : Bool = is_some_quad (out dataset g s) in
    let U : Bool = not (is_iri rdf_nil s) && list_any (lies_in g) (uses dataset s) in
    let N : Bool = is_default g && named dataset s in
    let x : ((is_node s && not (cell_within (answers_of dataset) g n s)) ≡ true) × ((B || U || N) ≡ true) =
    and_parts (is_node s && not (cell_within (answers_of dataset) g n s)) (B || U || N) e in
    let subject : Bool = list_any (λ q. lies_in g q && term_eq q.subject s) dataset in
    let used : Bool = list_any (λ q. lies_in g q && is_use s q) dataset in
    record {
      node = (and_parts (is_node s) (not (cell_within (answers_of dataset) g n s)) x.0).0;
      cause =
          ⊎_elim
          (λ bu.
          ⊎_elim (λ b. or_left subject (used || N) (sym (some-filter (λ q. lies_in g q && term_eq q.subject s) dataset) ∙ b))
          (λ u.
          or_right subject (used || N)
          (or_left used N (used_in dataset g s (and_parts (not (is_iri rdf_nil s)) (list_any (lies_in g) (uses dataset s)) u).1)))
          (or_cases B U bu))
          (λ m. or_right subject (used || N) (or_right used N m)) (or_cases (B || U) N x.1);
    }

default_names : (dataset : List Quad) (g : GraphRef) (s : Term) → (is_default g && named dataset s) ≡ true → has term_eq (names_in dataset g) s ≡ true
default_names dataset graph.Default s e = name_is_listed dataset s e
default_names dataset (graph.Named name) s e = absurd (false≢true e)
default_names dataset graph.Merged s e = absurd (false≢true e)

key_is_member : (dataset : List Quad) (n : ℕ) (g : GraphRef) (s : Term) → key_in (answers_of dataset) n g s ≡ true → has term_eq (members dataset g) s ≡ true
key_is_member dataset n g s e =
    let c : KeyCause dataset g s = key_cause dataset n g s e in
    let subject : Bool = list_any (λ q. lies_in g q && term_eq q.subject s) dataset in
    let used : Bool = list_any (λ q. lies_in g q && is_use s q) dataset in
    let there : Bool = list_any (λ q. lies_in g q && has term_eq (nodes_in q) s) dataset in
    in_members dataset g s
    ∙ ⊎_elim
    (λ b.
    or_left there (has term_eq (names_in dataset g) s)
    (any_mono (λ q. lies_in g q && term_eq q.subject s) (λ q. lies_in g q && has term_eq (nodes_in q) s)
    (λ q h.
    let p : (lies_in g q ≡ true) × (term_eq q.subject s ≡ true) = and_parts (lies_in g q) (term_eq q.subject s) h in
    and_from (lies_in g q) (has term_eq (nodes_in q) s) p.0 (subject_in q s c.node p.1))
    dataset b))
    (λ un.
    ⊎_elim
    (λ u.
    or_left there (has term_eq (names_in dataset g) s)
    (any_mono (λ q. lies_in g q && is_use s q) (λ q. lies_in g q && has term_eq (nodes_in q) s)
    (λ q h.
    let p : (lies_in g q ≡ true) × (is_use s q ≡ true) = and_parts (lies_in g q) (is_use s q) h in
    and_from (lies_in g q) (has term_eq (nodes_in q) s) p.0 (object_in q s c.node p.1))
    dataset u))
    (λ m. or_right there (has term_eq (names_in dataset g) s) (default_names dataset g s m))
    (or_cases used (is_default g && named dataset s) un))
    (or_cases subject (used || (is_default g && named dataset s)) c.cause)

-- ---- the merged graph

first_of_and : (p q : Quad → Bool) (xs : List Quad) → list_any (λ x. p x && q x) xs ≡ true → list_any p xs ≡ true
first_of_and p q xs e = any_mono (λ x. p x && q x) p (λ x h. (and_parts (p x) (q x) h).0) xs e

key_named : (dataset : List Quad) (n : ℕ) (name s : Term) → key_in (answers_of dataset) n (graph.Named name) s ≡ true → named dataset name ≡ true
key_named dataset n name s e =
    let c : KeyCause dataset (graph.Named name) s = key_cause dataset n (graph.Named name) s e in
    let subject : Bool = list_any (λ q. lies_in (graph.Named name) q && term_eq q.subject s) dataset in
    let used : Bool = list_any (λ q. lies_in (graph.Named name) q && is_use s q) dataset in
    ⊎_elim (λ b. first_of_and (lies_in (graph.Named name)) (λ q. term_eq q.subject s) dataset b)
    (λ un.
    ⊎_elim (λ u. first_of_and (lies_in (graph.Named name)) (is_use s) dataset u) (λ m. absurd (false≢true m)) (or_cases used false un))
    (or_cases subject (used || false) c.cause)

abbrev merged_members : List Quad → List Term
merged_members dataset = members_by (answers_of dataset) graph.Merged

abbrev named_members : List Quad → List Term
named_members dataset = flat_map (λ name. members dataset (graph.Named name)) (filter (named dataset) (members dataset graph.Default))

in_merged : (dataset : List Quad) (s : Term)
    → has term_eq (merged_members dataset) s ≡ (has term_eq (members dataset graph.Default) s || has term_eq (named_members dataset) s)
in_merged dataset s =
    in_set (members dataset graph.Default ++ named_members dataset) s
    ∙ any-append (term_eq s) (members dataset graph.Default) (named_members dataset)

name_is_member : (dataset : List Quad) (name : Term) → named dataset name ≡ true → has term_eq (members dataset graph.Default) name ≡ true
name_is_member dataset name e =
    in_members dataset graph.Default name
    ∙ or_right (list_any (λ q. lies_in graph.Default q && has term_eq (nodes_in q) name) dataset) (has term_eq (names dataset) name) (name_is_listed dataset name e)

in_named_members : (dataset : List Quad) (name s : Term) → named dataset name ≡ true → has term_eq (members dataset (graph.Named name)) s ≡ true
    → has term_eq (named_members dataset) s ≡ true
in_named_members dataset name s e h =
    (any-flat_map (term_eq s) (λ other. members dataset (graph.Named other)) (filter (named dataset) (members dataset graph.Default))
    ∙ any-filter (λ other. has term_eq (members dataset (graph.Named other)) s) (named dataset) (members dataset graph.Default))
    ∙ any_mono (term_eq name) (λ other. named dataset other && has term_eq (members dataset (graph.Named other)) s)
    (λ other k.
    let is : name ≡ other = (term_decides name other).0 k in
    subst (λ (w : Term). (named dataset w && has term_eq (members dataset (graph.Named w)) s) ≡ true) is
    (and_from (named dataset name) (has term_eq (members dataset (graph.Named name)) s) e h))
    (members dataset graph.Default) (name_is_member dataset name e)

merged_by_label : (dataset : List Quad) (n : ℕ) (s : Term) (label : Option Term) → key_in (answers_of dataset) n (graph_named label) s ≡ true
    → has term_eq (merged_members dataset) s ≡ true
merged_by_label dataset n s None e =
    in_merged dataset s ∙ or_left (has term_eq (members dataset graph.Default) s) (has term_eq (named_members dataset) s) (key_is_member dataset n graph.Default s e)
merged_by_label dataset n s (Some name) e =
    in_merged dataset s
    ∙ or_right (has term_eq (members dataset graph.Default) s) (has term_eq (named_members dataset) s)
    (in_named_members dataset name s (key_named dataset n name s e) (key_is_member dataset n (graph.Named name) s e))

listed : (dataset : List Quad) (g : GraphRef) (s : Term) → is_key dataset g s ≡ true → has term_eq (members_by (answers_of dataset) g) s ≡ true
listed dataset graph.Default s e = key_is_member dataset (enough dataset) graph.Default s e
listed dataset (graph.Named name) s e = key_is_member dataset (enough dataset) (graph.Named name) s e
listed dataset graph.Merged s e =
    let test : GraphRef → Bool = λ g. key_in (answers_of dataset) (enough dataset) g s in
    let quads : List Quad = out_any dataset s ++ uses dataset s in
    ⊎_elim (λ d. merged_by_label dataset (enough dataset) s None d)
    (λ m.
    let (q, k, rest) = any_found (λ q. key_in (answers_of dataset) (enough dataset) (graph_of q) s) quads (sym (any-map test graph_of quads) ∙ m) in
    merged_by_label dataset (enough dataset) s q.graph k)
    (or_cases (test graph.Default) (list_any test (map graph_of quads)) e)

both_or_none : (a b : Bool) → (b ≡ true → a ≡ true) → (b && a) ≡ b
both_or_none true b f = and_true b
both_or_none false true f = f refl
both_or_none false false f = refl

pub keys_are_listed : KeysAreListed
keys_are_listed dataset g s =
    has-filter id_strict (is_key dataset g) (members_by (answers_of dataset) g) s
    ∙ both_or_none (has term_eq (members_by (answers_of dataset) g) s) (is_key dataset g s) (listed dataset g s)

members_ascend : (dataset : List Quad) (g : GraphRef) → IsTrue (ascends id_cmp (members_by (answers_of dataset) g))
members_ascend dataset graph.Default =
    ascends-set_of id_strict (flat_map nodes_in (filter (lies_in graph.Default) dataset) ++ names dataset)
members_ascend dataset (graph.Named name) =
    ascends-set_of id_strict (flat_map nodes_in (filter (lies_in (graph.Named name)) dataset) ++ [])
members_ascend dataset graph.Merged = ascends-set_of id_strict (members dataset graph.Default ++ named_members dataset)

pub keys_in_order : KeysInOrder
keys_in_order dataset g =
    ascends-filter id_strict (is_key dataset g) (members_by (answers_of dataset) g) (members_ascend dataset g)

pub graph_told : (name : Term) (label : Option Term) → option_eq term_eq (Some name) label ≡ true → graph.Named name ≡ graph_named label
graph_told name None e = absurd (false≢true e)
graph_told name (Some other) e = ap graph.Named ((term_decides name other).0 e)

module _ (dataset : List Quad) (s : Term) where
  abbrev test : GraphRef → Bool
  test g = key_in (answers_of dataset) (enough dataset) g s

  abbrev quads : List Quad
  quads = out_any dataset s ++ uses dataset s

  abbrev named_test : Term → Bool
  named_test name = test (graph.Named name)

  -- a key of a named graph is in a quad of that graph
  in_quads : (name : Term) → test (graph.Named name) ≡ true → list_any (λ q. test (graph_of q)) quads ≡ true
  in_quads name e =
      let c : KeyCause dataset (graph.Named name) s = key_cause dataset (enough dataset) (graph.Named name) s e in
      let subject : Bool = list_any (λ q. lies_in (graph.Named name) q && term_eq q.subject s) dataset in
      let used : Bool = list_any (λ q. lies_in (graph.Named name) q && is_use s q) dataset in
      let L : Bool = list_any (λ q. test (graph_of q)) (out_any dataset s) in
      let R : Bool = list_any (λ q. test (graph_of q)) (uses dataset s) in
      any-append (λ q. test (graph_of q)) (out_any dataset s) (uses dataset s)
      ∙ ⊎_elim
      (λ b.
      or_left L R
      (any-filter (λ q. test (graph_of q)) (λ q. term_eq q.subject s) dataset
      ∙ any_mono (λ q. lies_in (graph.Named name) q && term_eq q.subject s) (λ q. term_eq q.subject s && test (graph_of q))
      (λ q h.
      let p : (lies_in (graph.Named name) q ≡ true) × (term_eq q.subject s ≡ true) = and_parts (lies_in (graph.Named name) q) (term_eq q.subject s) h in
      and_from (term_eq q.subject s) (test (graph_of q)) p.1 (ap test (sym (graph_told name q.graph p.0)) ∙ e))
      dataset b))
      (λ un.
      ⊎_elim
      (λ u.
      or_right L R
      (any-filter (λ q. test (graph_of q)) (is_use s) dataset
      ∙ any_mono (λ q. lies_in (graph.Named name) q && is_use s q) (λ q. is_use s q && test (graph_of q))
      (λ q h.
      let p : (lies_in (graph.Named name) q ≡ true) × (is_use s q ≡ true) = and_parts (lies_in (graph.Named name) q) (is_use s q) h in
      and_from (is_use s q) (test (graph_of q)) p.1 (ap test (sym (graph_told name q.graph p.0)) ∙ e))
      dataset u))
      (λ m. absurd (false≢true m)) (or_cases used false un))
      (or_cases subject (used || false) c.cause)

  by_label : (label : Option Term) → test (graph_named label) ≡ true → (test graph.Default || list_any named_test (names dataset)) ≡ true
  by_label None e = or_left (test graph.Default) (list_any named_test (names dataset)) e
  by_label (Some name) e =
      or_right (test graph.Default) (list_any named_test (names dataset))
      (any_mono (term_eq name) named_test (λ other k. subst (λ (w : Term). test (graph.Named w) ≡ true) ((term_decides name other).0 k) e) (names dataset)
      (name_is_listed dataset name (key_named dataset (enough dataset) name s e)))

  forth : (test graph.Default || list_any test (map graph_of quads)) ≡ true → (test graph.Default || list_any named_test (names dataset)) ≡ true
  forth e =
      ⊎_elim (λ d. by_label None d)
      (λ m.
      let (q, k, rest) = any_found (λ q. test (graph_of q)) quads (sym (any-map test graph_of quads) ∙ m) in
      by_label q.graph k)
      (or_cases (test graph.Default) (list_any test (map graph_of quads)) e)

  back : (test graph.Default || list_any named_test (names dataset)) ≡ true → (test graph.Default || list_any test (map graph_of quads)) ≡ true
  back e =
      ⊎_elim (λ d. or_left (test graph.Default) (list_any test (map graph_of quads)) d)
      (λ m.
      let (name, k, rest) = any_found named_test (names dataset) m in
      or_right (test graph.Default) (list_any test (map graph_of quads)) (any-map test graph_of quads ∙ in_quads name k))
      (or_cases (test graph.Default) (list_any named_test (names dataset)) e)

  merged_here : (test graph.Default || list_any test (map graph_of quads)) ≡ (test graph.Default || list_any named_test (names dataset))
  merged_here = same_truth _ _ forth back

pub merged_keys : MergedKeys
merged_keys dataset s =
    merged_here dataset s
    ∙ ap (λ (w : Bool). is_key dataset graph.Default s || w)
    (sym (any-map (λ g. is_key dataset g s) (λ name. graph.Named name) (names dataset)))

pub keys_have_views : KeysHaveViews
keys_have_views dataset g s = go (is_key dataset g s)
  where
    go : (r : Bool) → is_some (if r then Some (view_from (answers_of dataset) (enough dataset) s (quads_of (answers_of dataset) (enough dataset) g s)) else None) ≡ r
    go true = refl
    go false = refl

-- ---- steps suffice

module _ (dataset : List Quad) (n : ℕ) (low : enough dataset ≤ n) where
  abbrev A : Answers
  A = answers_of dataset

  less : length dataset ≤ n
  less = omega arith

  key_in_same : (g : GraphRef) (s : Term) → key_in A n g s ≡ key_in A (enough dataset) g s
  key_in_same g s i =
      is_node s && not (cell_rounds dataset g n less s i)
      && (is_some_quad (out dataset g s) || (not (is_iri rdf_nil s) && list_any (lies_in g) (uses dataset s)) || (is_default g && named dataset s))

  pub key_same : (g : GraphRef) (s : Term) → key_by A n g s ≡ key_by A (enough dataset) g s
  key_same graph.Default s = key_in_same graph.Default s
  key_same (graph.Named name) s = key_in_same (graph.Named name) s
  key_same graph.Merged s = λ i. list_any (λ g. key_in_same g s i) (graphs_with A s)

  pub keys_same : (g : GraphRef) → keys_by A n g ≡ keys_by A (enough dataset) g
  keys_same g = λ i. filter (λ s. key_same g s i) (members_by A g)

  value_same : (g : GraphRef) (o : Term) → value_by A n g o ≡ value_by A (enough dataset) g o
  value_same g o = ap (settled o) (steps_suffice_here dataset g n o low)

  property_same : (told : List Quad) (property : List ℕ) → property_by A n told property ≡ property_by A (enough dataset) told property
  property_same told property = λ i. record { property = property; values = map (λ q. value_same (graph_of q) q.object i) (quads_under property told) }

  view_from_same : (s : Term) (told : List Quad) → view_from A n s told ≡ view_from A (enough dataset) s told
  view_from_same s told =
      λ i. record { id = s; types = types_in told; props = map (λ p. property_same (property_quads told) p i) (properties_in (property_quads told)) }

  quads_same : (g : GraphRef) (s : Term) → quads_of A n g s ≡ quads_of A (enough dataset) g s
  quads_same graph.Default s = refl
  quads_same (graph.Named name) s = refl
  quads_same graph.Merged s = λ i. filter (λ q. key_in_same (graph_of q) s i) (out_any dataset s)

  pub view_same : (g : GraphRef) (s : Term) → view_by A n g s ≡ view_by A (enough dataset) g s
  view_same g s =
      (λ i. if key_same g s i then Some (view_from A n s (quads_same g s i)) else None)
      ∙ (λ i. if key_by A (enough dataset) g s then Some (view_from_same s (quads_of A (enough dataset) g s) i) else None)

  pub pointing_same : (g : GraphRef) (property : List ℕ) (node : Term) → pointing_by A n g property node ≡ pointing_by A (enough dataset) g property node
  pointing_same g property node = λ i. filter (λ s. refers property node (view_same g s i)) (keys_same g i)

pub view_steps_suffice : ViewStepsSuffice
view_steps_suffice dataset g n low =
    (key_same dataset n low g, keys_same dataset n low g, view_same dataset n low g, pointing_same dataset n low g)
