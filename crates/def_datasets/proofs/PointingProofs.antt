-- Which keys point at a node under a property.
use Rattle.std.proofs.Common.{◌≡◌, refl, sym, ◌∙◌, ap, subst, ℕ, List, [], ◌∷◌, ◌++◌, map, filter, Bool, true, false, not, ◌&&◌, ◌||◌, if◌then◌else◌, ⊎_elim, Option, Some, None, Ordering, Less, Equal, Greater}
use Rattle.std.specs.List.{list_any}
use Rattle.std.proofs.lemmas.Bool.{false≢true, not-true, and_parts, and_from, or_cases, or_left, or_right}
use Rattle.lf_rdf.specs.declared.term.Term.{Term}
use Rattle.lf_rdf.specs.declared.term.Term.TheVariants.{Iri, Blank, Literal}
use Rattle.lf_rdf.specs.declared.quad.Quad.{Quad}
use Rattle.lf_rdf.specs.declared.question.GraphRef.{GraphRef}
use Rattle.lf_rdf.specs.declared.question.GraphRef.TheVariants as graph
use Rattle.lf_rdf.specs.Vocabulary.{rdf_nil}
use Rattle.lf_rdf.specs.Canonical.{id_of}
use Rattle.lf_rdf.specs.Equality.{text_eq, term_eq, option_eq, quad_eq}
use Rattle.lf_model.specs.ValueData.{ListValue, literal, reference, list, no_values}
use Rattle.def_datasets.specs.Sorted.{has, placed, put, put_all, set_of}
use Rattle.def_datasets.specs.Dataset.{holds}
use Rattle.def_datasets.specs.Terms.{lies_in, graph_named, graph_of}
use Rattle.def_datasets.specs.Questions.{Answers, answers_of, out_any}
use Rattle.def_datasets.specs.Cells.{enough, item_of, rest_of}
use Rattle.def_datasets.specs.Values.{found, joined, cell_or_reference, settled, value_of}
use Rattle.def_datasets.specs.Views.{key_in, is_type_quad, property_quads, properties_in, quads_under, quads_of, view_from, view_of, is_reference_to, refers, is_key, keys}
use Rattle.def_datasets.specs.ViewLaws.{points, PointingIsTold, PointingInOrder}
use Rattle.def_datasets.proofs.Bools.{same_truth}
use Rattle.def_datasets.proofs.SortedLaws.{ascends-filter, has-filter, same_itself}
use Rattle.def_datasets.proofs.OrderLaws.{text_strict, id_strict, term_decides, quad_strict, quad_decides}
use Rattle.def_datasets.proofs.QuestionProofs.{any-append}
use Rattle.def_datasets.proofs.ViewProofs.{any_mono, any-map, any_found, graph_told, keys_are_listed, keys_in_order}
use Rattle.def_datasets.proofs.TellProofs.{properties_are_told, objects_are_told, shared_objects}

-- ---- what is in the set of a list is in the list

module _ {A : Type 0} (p : A → Bool) (cmp : A → A → Ordering) where
  any_placed : (x y : A) (ys : List A) (r : Ordering) → (list_any p (put cmp x ys) ≡ true → (p x || list_any p ys) ≡ true)
      → list_any p (placed r x y ys (put cmp x ys)) ≡ true → (p x || (p y || list_any p ys)) ≡ true
  any_placed x y ys Less ih e = e
  any_placed x y ys Equal ih e = or_right (p x) (p y || list_any p ys) e
  any_placed x y ys Greater ih e =
      ⊎_elim (λ h. or_right (p x) (p y || list_any p ys) (or_left (p y) (list_any p ys) h))
      (λ h.
      ⊎_elim (λ k. or_left (p x) (p y || list_any p ys) k) (λ k. or_right (p x) (p y || list_any p ys) (or_right (p y) (list_any p ys) k))
      (or_cases (p x) (list_any p ys) (ih h)))
      (or_cases (p y) (list_any p (put cmp x ys)) e)

  any_put : (x : A) (xs : List A) → list_any p (put cmp x xs) ≡ true → (p x || list_any p xs) ≡ true
  any_put x [] e = e
  any_put x (y ∷ ys) e = any_placed x y ys (cmp x y) (any_put x ys) e

  any_put_all : (xs ys : List A) → list_any p (put_all cmp xs ys) ≡ true → (list_any p ys || list_any p xs) ≡ true
  any_put_all xs [] e = e
  any_put_all xs (y ∷ ys) e =
      ⊎_elim (λ h. or_left (p y || list_any p ys) (list_any p xs) (or_right (p y) (list_any p ys) h))
      (λ h.
      ⊎_elim (λ k. or_left (p y || list_any p ys) (list_any p xs) (or_left (p y) (list_any p ys) k))
      (λ k. or_right (p y || list_any p ys) (list_any p xs) k) (or_cases (p y) (list_any p xs) (any_put y xs h)))
      (or_cases (list_any p ys) (list_any p (put cmp y xs)) (any_put_all (put cmp y xs) ys e))

  any_set : (xs : List A) → list_any p (set_of cmp xs) ≡ true → list_any p xs ≡ true
  any_set xs e = ⊎_elim (λ h. h) (λ h. absurd (false≢true h)) (or_cases (list_any p xs) false (any_put_all [] xs e))

-- a quad of a list that passes a test
any_holds : (p : Quad → Bool) (xs : List Quad) (q : Quad) → has quad_eq xs q ≡ true → p q ≡ true → list_any p xs ≡ true
any_holds p xs q there passes =
    any_mono (quad_eq q) p (λ r h. subst (λ (w : Quad). p w ≡ true) ((quad_decides q r).0 h) passes) xs there

-- ---- the quads of a node that count in a graph

-- a quad of the node in this graph, in whose graph the node is a key
record Counts (dataset : List Quad) (g : GraphRef) (s : Term) (q : Quad) : Type 0 where
  there : holds dataset q ≡ true
  lies : lies_in g q ≡ true
  subject : term_eq q.subject s ≡ true
  key : is_key dataset (graph_of q) s ≡ true

own_graph : (label : Option Term) → option_eq term_eq None label ≡ true → graph_named label ≡ graph.Default
own_graph None e = refl
own_graph (Some name) e = absurd (false≢true e)

key_by_label : (dataset : List Quad) (label : Option Term) (s : Term) → is_key dataset (graph_named label) s ≡ key_in (answers_of dataset) (enough dataset) (graph_named label) s
key_by_label dataset None s = refl
key_by_label dataset (Some name) s = refl

counted : (dataset : List Quad) (g : GraphRef) (s : Term) (q : Quad) → is_key dataset g s ≡ true → has quad_eq (quads_of (answers_of dataset) (enough dataset) g s) q ≡ true → Counts dataset g s q
counted dataset graph.Default s q key e =
    let parts = and_parts (lies_in graph.Default q && term_eq q.subject s) (holds dataset q) (sym (has-filter quad_strict (λ q. lies_in graph.Default q && term_eq q.subject s) dataset q) ∙ e) in
    let both = and_parts (lies_in graph.Default q) (term_eq q.subject s) parts.0 in
    record { there = parts.1; lies = both.0; subject = both.1; key = ap (λ (h : GraphRef). is_key dataset h s) (own_graph q.graph both.0) ∙ key }
counted dataset (graph.Named name) s q key e =
    let parts = and_parts (lies_in (graph.Named name) q && term_eq q.subject s) (holds dataset q) (sym (has-filter quad_strict (λ q. lies_in (graph.Named name) q && term_eq q.subject s) dataset q) ∙ e) in
    let both = and_parts (lies_in (graph.Named name) q) (term_eq q.subject s) parts.0 in
    record { there = parts.1; lies = both.0; subject = both.1; key = ap (λ (h : GraphRef). is_key dataset h s) (sym (graph_told name q.graph both.0)) ∙ key }
counted dataset graph.Merged s q key e =
    let test : Quad → Bool = λ q. key_in (answers_of dataset) (enough dataset) (graph_of q) s in
    let outer = and_parts (test q) (has quad_eq (out_any dataset s) q) (sym (has-filter quad_strict test (out_any dataset s) q) ∙ e) in
    let inner = and_parts (term_eq q.subject s) (holds dataset q) (sym (has-filter quad_strict (λ q. term_eq q.subject s) dataset q) ∙ outer.1) in
    record { there = inner.1; lies = refl; subject = inner.0; key = key_by_label dataset q.graph s ∙ outer.0 }

counts : (dataset : List Quad) (g : GraphRef) (s : Term) (q : Quad) → Counts dataset g s q → has quad_eq (quads_of (answers_of dataset) (enough dataset) g s) q ≡ true
counts dataset graph.Default s q c =
    has-filter quad_strict (λ q. lies_in graph.Default q && term_eq q.subject s) dataset q
    ∙ and_from (lies_in graph.Default q && term_eq q.subject s) (holds dataset q) (and_from (lies_in graph.Default q) (term_eq q.subject s) c.lies c.subject) c.there
counts dataset (graph.Named name) s q c =
    has-filter quad_strict (λ q. lies_in (graph.Named name) q && term_eq q.subject s) dataset q
    ∙ and_from (lies_in (graph.Named name) q && term_eq q.subject s) (holds dataset q) (and_from (lies_in (graph.Named name) q) (term_eq q.subject s) c.lies c.subject) c.there
counts dataset graph.Merged s q c =
    let test : Quad → Bool = λ q. key_in (answers_of dataset) (enough dataset) (graph_of q) s in
    has-filter quad_strict test (out_any dataset s) q
    ∙ and_from (test q) (has quad_eq (out_any dataset s) q) (sym (key_by_label dataset q.graph s) ∙ c.key)
    (has-filter quad_strict (λ q. term_eq q.subject s) dataset q ∙ and_from (term_eq q.subject s) (holds dataset q) c.subject c.there)

-- a node with such a quad is a key of the graph
key_of_graph : (dataset : List Quad) (g : GraphRef) (s : Term) (q : Quad) → Counts dataset g s q → is_key dataset g s ≡ true
key_of_graph dataset graph.Default s q c = ap (λ (h : GraphRef). is_key dataset h s) (sym (own_graph q.graph c.lies)) ∙ c.key
key_of_graph dataset (graph.Named name) s q c = ap (λ (h : GraphRef). is_key dataset h s) (graph_told name q.graph c.lies) ∙ c.key
key_of_graph dataset graph.Merged s q c =
    let test : GraphRef → Bool = λ g. key_in (answers_of dataset) (enough dataset) g s in
    let of_quad : Quad → Bool = λ q. test (graph_of q) in
    let here : of_quad q ≡ true = sym (key_by_label dataset q.graph s) ∙ c.key in
    let quads : List Quad = out_any dataset s in
    let others : List Quad = (answers_of dataset).uses s in
    let among : has quad_eq quads q ≡ true = has-filter quad_strict (λ q. term_eq q.subject s) dataset q ∙ and_from (term_eq q.subject s) (holds dataset q) c.subject c.there in
    or_right (test graph.Default) (list_any test (map graph_of (quads ++ others)))
    (any-map test graph_of (quads ++ others)
    ∙ (any-append of_quad quads others ∙ or_left (list_any of_quad quads) (list_any of_quad others) (any_holds of_quad quads q among here)))

-- ---- references

-- what is found for a node that is a cell is no reference
joined_no_reference : (item rest : Option ListValue) (b node : Term) → is_reference_to node (settled b (joined item rest)) ≡ true → b ≡ node
joined_no_reference None rest b node e = (term_decides b node).0 e
joined_no_reference (Some item) None b node e = (term_decides b node).0 e
joined_no_reference (Some item) (Some (literal term)) b node e = (term_decides b node).0 e
joined_no_reference (Some item) (Some (reference term)) b node e = (term_decides b node).0 e
joined_no_reference (Some item) (Some (list items)) b node e = absurd (false≢true e)

cell_no_reference : (r : Bool) (answers : Answers) (g : GraphRef) (self : Term → Option ListValue) (b node : Term)
    → is_reference_to node (settled b (cell_or_reference r answers g self b)) ≡ true → b ≡ node
cell_no_reference true answers g self b node e = joined_no_reference (found self (item_of answers g b)) (found self (rest_of answers g b)) b node e
cell_no_reference false answers g self b node e = (term_decides b node).0 e

iri_reference : (r : Bool) (iri : List ℕ) (node : Term) → is_reference_to node (if r then list no_values else reference (Iri iri)) ≡ true → Iri iri ≡ node
iri_reference true iri node e = absurd (false≢true e)
iri_reference false iri node e = (term_decides (Iri iri) node).0 e

-- a value that is the reference to a node is that of the node
reference_is : (dataset : List Quad) (g : GraphRef) (o node : Term) → is_reference_to node (value_of dataset g o) ≡ true → o ≡ node
reference_is dataset g (Literal lexical datatype language) node e = absurd (false≢true e)
reference_is dataset g (Iri iri) node e = iri_reference (text_eq rdf_nil iri) iri node e
reference_is dataset g (Blank label) node e = cell_no_reference _ (answers_of dataset) g _ (Blank label) node e

-- ---- what the law speaks of, in parts

record Points (dataset : List Quad) (g : GraphRef) (property : List ℕ) (node s : Term) (q : Quad) : Type 0 where
  counting : Counts dataset g s q
  plain : is_type_quad q ≡ false
  under : text_eq property (id_of q.predicate) ≡ true
  object : q.object ≡ node
  refers_to : is_reference_to node (value_of dataset (graph_of q) node) ≡ true

from_points : (dataset : List Quad) (g : GraphRef) (property : List ℕ) (node s : Term) (q : Quad) → holds dataset q ≡ true → points dataset g property node s q ≡ true
    → Points dataset g property node s q
from_points dataset g property node s q there e =
    let value : Bool = is_reference_to node (value_of dataset (graph_of q) node) in
    let a = and_parts (lies_in g q) (term_eq q.subject s && (is_key dataset (graph_of q) s && (not (is_type_quad q) && (text_eq property (id_of q.predicate) && (term_eq q.object node && value))))) e in
    let b = and_parts (term_eq q.subject s) (is_key dataset (graph_of q) s && (not (is_type_quad q) && (text_eq property (id_of q.predicate) && (term_eq q.object node && value)))) a.1 in
    let c = and_parts (is_key dataset (graph_of q) s) (not (is_type_quad q) && (text_eq property (id_of q.predicate) && (term_eq q.object node && value))) b.1 in
    let d = and_parts (not (is_type_quad q)) (text_eq property (id_of q.predicate) && (term_eq q.object node && value)) c.1 in
    let f = and_parts (text_eq property (id_of q.predicate)) (term_eq q.object node && value) d.1 in
    let h = and_parts (term_eq q.object node) value f.1 in
    record {
      counting = record { there = there; lies = a.0; subject = b.0; key = c.0 };
      plain = not-true (is_type_quad q) d.0;
      under = f.0;
      object = (term_decides q.object node).0 h.0;
      refers_to = h.1;
    }

to_points : (dataset : List Quad) (g : GraphRef) (property : List ℕ) (node s : Term) (q : Quad) → Points dataset g property node s q → points dataset g property node s q ≡ true
to_points dataset g property node s q p =
    let same : term_eq q.object node ≡ true = (term_decides q.object node).1 p.object in
    and_from _ _ p.counting.lies
    (and_from _ _ p.counting.subject
    (and_from _ _ p.counting.key (and_from _ _ (ap not p.plain) (and_from _ _ p.under (and_from _ _ same p.refers_to)))))

-- ---- the law

module _ (dataset : List Quad) (g : GraphRef) (property : List ℕ) (node s : Term) where
  abbrev quads : List Quad
  quads = quads_of (answers_of dataset) (enough dataset) g s

  abbrev told : List Quad
  told = property_quads quads

  abbrev value_at : Quad → ListValue
  value_at q = value_of dataset (graph_of q) q.object

  abbrev under_test : List ℕ → Quad → Bool
  under_test p q = text_eq p (id_of q.predicate)

  abbrev valued : Quad → Bool
  valued q = is_reference_to node (value_at q)

  -- a property of the view has the reference among its values
  abbrev entry_test : List ℕ → Bool
  entry_test p = text_eq p property && list_any (is_reference_to node) (map value_at (quads_under p told))

  view_refers : refers property node (Some (view_from (answers_of dataset) (enough dataset) s quads)) ≡ list_any entry_test (properties_in told)
  view_refers = any-map _ _ (properties_in told)

  record Told (p : List ℕ) (q : Quad) : Type 0 where
    counting : Counts dataset g s q
    plain : is_type_quad q ≡ false
    under : text_eq p (id_of q.predicate) ≡ true

  told_of : is_key dataset g s ≡ true → (p : List ℕ) (q : Quad) → has quad_eq (quads_under p told) q ≡ true → Told p q
  told_of key p q e =
      let listed : has quad_eq (filter (under_test p) told) q ≡ true = any_set (quad_eq q) _ (filter (under_test p) told) e in
      let outer = and_parts (under_test p q) (has quad_eq told q) (sym (has-filter quad_strict (under_test p) told q) ∙ listed) in
      let inner = and_parts (not (is_type_quad q)) (has quad_eq quads q) (sym (has-filter quad_strict (λ q. not (is_type_quad q)) quads q) ∙ outer.1) in
      record { counting = counted dataset g s q key inner.1; plain = not-true (is_type_quad q) inner.0; under = outer.0 }

  in_told : (p : List ℕ) (q : Quad) → Told p q → has quad_eq told q ≡ true
  in_told p q t =
      has-filter quad_strict (λ q. not (is_type_quad q)) quads q
      ∙ and_from (not (is_type_quad q)) (has quad_eq quads q) (ap not t.plain) (counts dataset g s q t.counting)

  is_in : (q : Quad) → quad_eq q q ≡ true
  is_in q = same_itself quad_strict q

  forth : is_key dataset g s ≡ true → list_any entry_test (properties_in told) ≡ true → list_any (points dataset g property node s) dataset ≡ true
  forth key e =
      let (p, passes, rest) = any_found entry_test (properties_in told) e in
      let parts = and_parts (text_eq p property) (list_any (is_reference_to node) (map value_at (quads_under p told))) passes in
      let same : p ≡ property = (text_strict.decides p property).0 parts.0 in
      let (q, refers_here, among) = any_found valued (quads_under p told) (sym (any-map (is_reference_to node) value_at (quads_under p told)) ∙ parts.1) in
      let t = told_of key p q (among (quad_eq q) (is_in q)) in
      let object : q.object ≡ node = reference_is dataset (graph_of q) q.object node refers_here in
      any_holds (points dataset g property node s) dataset q t.counting.there
      (to_points dataset g property node s q
      (record {
        counting = t.counting;
        plain = t.plain;
        under = subst (λ (w : List ℕ). text_eq w (id_of q.predicate) ≡ true) same t.under;
        object = object;
        refers_to = subst (λ (o : Term). is_reference_to node (value_of dataset (graph_of q) o) ≡ true) object refers_here;
      }))

  back : (q : Quad) → Points dataset g property node s q → list_any entry_test (properties_in told) ≡ true
  back q h =
      let key : is_key dataset g s ≡ true = key_of_graph dataset g s q h.counting in
      let here : has quad_eq told q ≡ true = in_told property q (record { counting = h.counting; plain = h.plain; under = h.under }) in
      let listed : has text_eq (properties_in told) property ≡ true = properties_are_told told property ∙ any_holds (under_test property) told q here h.under in
      let objects : has term_eq (map (λ q. q.object) (quads_under property told)) q.object ≡ true =
      objects_are_told told property q.object
      ∙ any_holds (λ r. text_eq property (id_of r.predicate) && term_eq q.object r.object) told q here (and_from _ _ h.under ((term_decides q.object q.object).1 refl)) in
      let (r, alike, among) = any_found (λ r. term_eq q.object r.object) (quads_under property told) (sym (any-map (term_eq q.object) (λ r. r.object) (quads_under property told)) ∙ objects) in
      let t = told_of key property r (among (quad_eq r) (is_in r)) in
      let one : value_at q ≡ value_at r = shared_objects dataset q r h.counting.there t.counting.there ((term_decides q.object r.object).0 alike) h.plain t.plain in
      let at_node : valued q ≡ true = subst (λ (o : Term). is_reference_to node (value_of dataset (graph_of q) o) ≡ true) (sym h.object) h.refers_to in
      let at_r : valued r ≡ true = ap (is_reference_to node) (sym one) ∙ at_node in
      let entry : entry_test property ≡ true =
      and_from (text_eq property property) _ ((text_strict.decides property property).1 refl) (any-map (is_reference_to node) value_at (quads_under property told) ∙ among valued at_r) in
      any_mono (text_eq property) entry_test (λ p e. subst (λ (w : List ℕ). entry_test w ≡ true) ((text_strict.decides property p).0 e) entry) (properties_in told) listed

  -- a view refers where it is a key's and its entries do
  view_case : (r : Bool) → is_key dataset g s ≡ r
      → (refers property node (if r then Some (view_from (answers_of dataset) (enough dataset) s quads) else None) && r)
      ≡ list_any (points dataset g property node s) dataset
  view_case true key =
      same_truth _ _ (λ e. forth key (sym view_refers ∙ (and_parts _ true e).0))
      (λ e.
      let (q, passes, among) = any_found (points dataset g property node s) dataset e in
      and_from _ true (view_refers ∙ back q (from_points dataset g property node s q (among (quad_eq q) (is_in q)) passes)) refl)
  view_case false key =
      same_truth _ _ (λ e. absurd (false≢true e))
      (λ e.
      let (q, passes, among) = any_found (points dataset g property node s) dataset e in
      absurd (false≢true (sym key ∙ key_of_graph dataset g s q (from_points dataset g property node s q (among (quad_eq q) (is_in q)) passes).counting)))

pub pointing_is_told : PointingIsTold
pointing_is_told dataset g property node s =
    has-filter id_strict (λ t. refers property node (view_of dataset g t)) (keys dataset g) s
    ∙ (ap (λ (b : Bool). refers property node (view_of dataset g s) && b) (keys_are_listed dataset g s)
    ∙ view_case dataset g property node s (is_key dataset g s) refl)

pub pointing_in_order : PointingInOrder
pointing_in_order dataset g property node =
    ascends-filter id_strict (λ t. refers property node (view_of dataset g t)) (keys dataset g) (keys_in_order dataset g)
