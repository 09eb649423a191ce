-- What the parts of a view tell.
use Rattle.std.proofs.Common.{◌≡◌, refl, sym, ◌∙◌, ap, ℕ, List, [], ◌∷◌, map, filter, Bool, true, false, not, ◌&&◌, ◌||◌, if◌then◌else◌, Ordering, Less, Equal, Greater}
use Rattle.std.specs.Ordering.{on}
use Rattle.std.proofs.lemmas.Bool.{true≢false, false≢true, and_from}
use Rattle.lf_rdf.specs.declared.term.Term.{Term}
use Rattle.lf_rdf.specs.declared.term.Term.TheVariants.{Iri, Blank, Literal}
use Rattle.lf_rdf.specs.declared.quad.Quad.{Quad}
use Rattle.lf_rdf.specs.declared.question.GraphRef.{GraphRef}
use Rattle.lf_rdf.specs.Vocabulary.{rdf_nil}
use Rattle.lf_rdf.specs.Canonical.{id_of}
use Rattle.lf_rdf.specs.Equality.{text_eq, term_eq, quad_eq}
use Rattle.lf_model.specs.ValueData.{reference, list, no_values}
use Rattle.def_datasets.specs.Sorted.{has, ascends, placed, put, put_all, set_of}
use Rattle.def_datasets.specs.Order.{term_cmp}
use Rattle.def_datasets.specs.Dataset.{holds}
use Rattle.def_datasets.specs.Terms.{is_node, is_iri, tells_type, graph_of, is_use, uses}
use Rattle.def_datasets.specs.Cells.{is_cell}
use Rattle.def_datasets.specs.Values.{value_of}
use Rattle.def_datasets.specs.Views.{is_type_quad, quads_under}
use Rattle.def_datasets.specs.ViewLaws.{SharedObjects, TypesAreTold, TypesInOrder, PropertiesAreTold, PropertiesInOrder, ObjectsAreTold, ObjectsInOrder}
use Rattle.def_datasets.proofs.SortedLaws.{IsStrict, ascends-set_of, has-put_all, has-filter}
use Rattle.def_datasets.proofs.OrderLaws.{text_strict, id_strict, term_strict, term_decides, quad_strict, quad_decides}
use Rattle.def_datasets.proofs.CellProofs.{cells_are_used_once}
use Rattle.def_datasets.proofs.ValueProofs.{literal_values, reference_values}
use Rattle.def_datasets.proofs.ViewProofs.{any-filter, any-map}

or_false : (a : Bool) → (a || false) ≡ a
or_false true = refl
or_false false = refl

in_set : {A : Type 0} {same : A → A → Bool} {cmp : A → A → Ordering} (o : IsStrict same cmp) (xs : List A) (z : A)
    → has same (set_of cmp xs) z ≡ has same xs z
in_set {same = same} o xs z = has-put_all o [] xs z ∙ or_false (has same xs z)

-- ---- types and properties

pub types_are_told : TypesAreTold
types_are_told quads t =
    in_set id_strict (map (λ q. q.object) (filter is_type_quad quads)) t
    ∙ (any-map (term_eq t) (λ q. q.object) (filter is_type_quad quads) ∙ any-filter (λ q. term_eq t q.object) is_type_quad quads)

pub types_in_order : TypesInOrder
types_in_order quads = ascends-set_of id_strict (map (λ q. q.object) (filter is_type_quad quads))

pub properties_are_told : PropertiesAreTold
properties_are_told quads property =
    in_set text_strict (map (λ q. id_of q.predicate) quads) property ∙ any-map (text_eq property) (λ q. id_of q.predicate) quads

pub properties_in_order : PropertiesInOrder
properties_in_order quads = ascends-set_of text_strict (map (λ q. id_of q.predicate) quads)

-- ---- a set by a part of its values has the set of these parts

module _ {A B : Type 0} (f : A → B) (cmp : B → B → Ordering) where
  placed_part : (x y : A) (ys later : List A) (r : Ordering) → map f (placed r x y ys later) ≡ placed r (f x) (f y) (map f ys) (map f later)
  placed_part x y ys later Less = refl
  placed_part x y ys later Equal = refl
  placed_part x y ys later Greater = refl

  put_part : (x : A) (xs : List A) → map f (put (on f cmp) x xs) ≡ put cmp (f x) (map f xs)
  put_part x [] = refl
  put_part x (y ∷ ys) =
      placed_part x y ys (put (on f cmp) x ys) (cmp (f x) (f y))
      ∙ ap (placed (cmp (f x) (f y)) (f x) (f y) (map f ys)) (put_part x ys)

  put_all_part : (xs ys : List A) → map f (put_all (on f cmp) xs ys) ≡ put_all cmp (map f xs) (map f ys)
  put_all_part xs [] = refl
  put_all_part xs (y ∷ ys) =
      put_all_part (put (on f cmp) y xs) ys ∙ ap (λ (w : List B). put_all cmp w (map f ys)) (put_part y xs)

  set_part : (xs : List A) → map f (set_of (on f cmp) xs) ≡ set_of cmp (map f xs)
  set_part xs = put_all_part [] xs

abbrev under : List ℕ → Quad → Bool
under property q = text_eq property (id_of q.predicate)

objects_set : (quads : List Quad) (property : List ℕ)
    → map (λ q. q.object) (quads_under property quads) ≡ set_of term_cmp (map (λ q. q.object) (filter (under property) quads))
objects_set quads property = set_part (λ (q : Quad). q.object) term_cmp (filter (under property) quads)

pub objects_are_told : ObjectsAreTold
objects_are_told quads property object =
    ap (λ (w : List Term). has term_eq w object) (objects_set quads property)
    ∙ (in_set term_strict (map (λ q. q.object) (filter (under property) quads)) object
    ∙ (any-map (term_eq object) (λ q. q.object) (filter (under property) quads)
    ∙ any-filter (λ q. term_eq object q.object) (under property) quads))

pub objects_in_order : ObjectsInOrder
objects_in_order quads property =
    ap (ascends term_cmp) (objects_set quads property)
    ∙ ascends-set_of term_strict (map (λ q. q.object) (filter (under property) quads))

-- ---- shared objects

-- a quad with a node as its object that tells no type uses it
uses_it : (q : Quad) (o : Term) → is_node o ≡ true → q.object ≡ o → is_type_quad q ≡ false → is_use o q ≡ true
uses_it q o node is none =
    let object : is_node q.object ≡ true = ap is_node is ∙ node in
    let plain : tells_type q ≡ false = no_type (tells_type q) (is_node q.object) object none in
    and_from (term_eq q.object o) (not (tells_type q)) ((term_decides q.object o).1 is) (ap not plain)
  where
    no_type : (a b : Bool) → b ≡ true → (a && b) ≡ false → a ≡ false
    no_type true b e f = absurd (true≢false (sym e ∙ f))
    no_type false b e f = refl

only_use : (dataset : List Quad) (q u : Quad) (o : Term) → holds dataset q ≡ true → is_use o q ≡ true → uses dataset o ≡ u ∷ [] → q ≡ u
only_use dataset q u o there use_it alone =
    let among : has quad_eq (u ∷ []) q ≡ true =
    ap (λ (w : List Quad). has quad_eq w q) (sym alone)
    ∙ (has-filter quad_strict (is_use o) dataset q ∙ and_from (is_use o q) (holds dataset q) use_it there) in
    (quad_decides q u).0 (sym (or_false (quad_eq q u)) ∙ among)

-- where the object is a cell of the graph of one of both, they are one quad
one_quad : (dataset : List Quad) (g : GraphRef) (q r : Quad) (o : Term) → is_node o ≡ true → holds dataset q ≡ true → holds dataset r ≡ true
    → q.object ≡ o → r.object ≡ o → is_type_quad q ≡ false → is_type_quad r ≡ false → is_cell dataset g o ≡ true → q ≡ r
one_quad dataset g q r o node hq hr oq or tq tr cell =
    let (u, alone, lies) = cells_are_used_once dataset g o cell in
    only_use dataset q u o hq (uses_it q o node oq tq) alone ∙ sym (only_use dataset r u o hr (uses_it r o node or tr) alone)

node_case : (dataset : List Quad) (q r : Quad) (o : Term) (c d n : Bool) → is_node o ≡ true → holds dataset q ≡ true → holds dataset r ≡ true
    → q.object ≡ o → r.object ≡ o → is_type_quad q ≡ false → is_type_quad r ≡ false
    → is_cell dataset (graph_of q) o ≡ c → is_cell dataset (graph_of r) o ≡ d → is_iri rdf_nil o ≡ n
    → ((is_iri rdf_nil o ≡ true) → value_of dataset (graph_of q) o ≡ value_of dataset (graph_of r) o)
    → value_of dataset (graph_of q) o ≡ value_of dataset (graph_of r) o
node_case dataset q r o true d n node hq hr oq or tq tr cq cr nil by_nil =
    ap (λ (w : Quad). value_of dataset (graph_of w) o) (one_quad dataset (graph_of q) q r o node hq hr oq or tq tr cq)
node_case dataset q r o false true n node hq hr oq or tq tr cq cr nil by_nil =
    ap (λ (w : Quad). value_of dataset (graph_of w) o) (one_quad dataset (graph_of r) q r o node hq hr oq or tq tr cr)
node_case dataset q r o false false true node hq hr oq or tq tr cq cr nil by_nil = by_nil nil
node_case dataset q r o false false false node hq hr oq or tq tr cq cr nil by_nil =
    reference_values dataset (graph_of q) o node nil cq ∙ sym (reference_values dataset (graph_of r) o node nil cr)

nil_alike : (dataset : List Quad) (g h : GraphRef) (o : Term) → is_iri rdf_nil o ≡ true → value_of dataset g o ≡ value_of dataset h o
nil_alike dataset g h (Iri iri) e = ap (λ (b : Bool). if b then list no_values else reference (Iri iri)) e ∙ sym (ap (λ (b : Bool). if b then list no_values else reference (Iri iri)) e)
nil_alike dataset g h (Blank l) e = absurd (false≢true e)
nil_alike dataset g h (Literal a d l) e = absurd (false≢true e)

shared_term : (dataset : List Quad) (q r : Quad) (o : Term) → holds dataset q ≡ true → holds dataset r ≡ true → q.object ≡ o → r.object ≡ o
    → is_type_quad q ≡ false → is_type_quad r ≡ false → value_of dataset (graph_of q) o ≡ value_of dataset (graph_of r) o
shared_term dataset q r (Iri iri) hq hr oq or tq tr =
    node_case dataset q r (Iri iri) (is_cell dataset (graph_of q) (Iri iri)) (is_cell dataset (graph_of r) (Iri iri)) (is_iri rdf_nil (Iri iri)) refl hq hr oq or tq tr refl refl refl
    (nil_alike dataset (graph_of q) (graph_of r) (Iri iri))
shared_term dataset q r (Blank l) hq hr oq or tq tr =
    node_case dataset q r (Blank l) (is_cell dataset (graph_of q) (Blank l)) (is_cell dataset (graph_of r) (Blank l)) (is_iri rdf_nil (Blank l)) refl hq hr oq or tq tr refl refl refl
    (nil_alike dataset (graph_of q) (graph_of r) (Blank l))
shared_term dataset q r (Literal a d l) hq hr oq or tq tr =
    literal_values dataset (graph_of q) a d l ∙ sym (literal_values dataset (graph_of r) a d l)

pub shared_objects : SharedObjects
shared_objects dataset q r hq hr same tq tr =
    shared_term dataset q r q.object hq hr refl (sym same) tq tr ∙ ap (value_of dataset (graph_of r)) same
