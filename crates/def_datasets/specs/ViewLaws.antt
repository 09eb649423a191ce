-- What holds of keys and views, whatever the dataset (JSON-LD 1.1 Framing, section 4.1).
use Rattle.std.specs.Prelude.{◌≡◌, List, ◌∷◌, map, ℕ, ◌≤◌, Bool, ◌&&◌, not, IsTrue, IsFalse, is_some}
use Rattle.std.specs.List.{list_any}
use Rattle.lf_rdf.specs.declared.term.Term.{Term}
use Rattle.lf_rdf.specs.declared.quad.Quad.{Quad}
use Rattle.lf_rdf.specs.declared.question.GraphRef.{GraphRef}
use Rattle.lf_rdf.specs.declared.question.GraphRef.TheVariants as graph
use Rattle.lf_rdf.specs.Canonical.{id_of}
use Rattle.lf_rdf.specs.Equality.{text_eq, term_eq}
use Rattle.def_datasets.specs.Sorted as sorted
use Rattle.def_datasets.specs.Order.{text_cmp, id_cmp, term_cmp}
use Rattle.def_datasets.specs.Dataset.{holds}
use Rattle.def_datasets.specs.Terms.{lies_in, graph_of, names}
use Rattle.def_datasets.specs.Questions.{answers_of}
use Rattle.def_datasets.specs.Cells.{enough}
use Rattle.def_datasets.specs.Values.{value_of}
use Rattle.def_datasets.specs.Views.{is_type_quad, types_in, properties_in, quads_under, key_by, keys_by, view_by, pointing_by, is_reference_to, is_key, keys, view_of, pointing}

-- the keys that are listed are those that the rule tells, and no others
abbrev pub KeysAreListed : Type 0
KeysAreListed =
    (dataset : List Quad) (g : GraphRef) (s : Term) →
    sorted.has term_eq (keys dataset g) s ≡ is_key dataset g s

-- the keys stand each once, in order of their ids
abbrev pub KeysInOrder : Type 0
KeysInOrder = (dataset : List Quad) (g : GraphRef) → IsTrue (sorted.ascends id_cmp (keys dataset g))

-- the merged graph has the keys of all graphs
abbrev pub MergedKeys : Type 0
MergedKeys =
    (dataset : List Quad) (s : Term)
    → is_key dataset graph.Merged s
    ≡ list_any (λ g. is_key dataset g s)
    (graph.Default ∷ map (λ name. graph.Named name) (names dataset))

-- a key has a view, and nothing else has
abbrev pub KeysHaveViews : Type 0
KeysHaveViews = (dataset : List Quad) (g : GraphRef) (s : Term) →
    is_some (view_of dataset g s) ≡ is_key dataset g s

-- no further step changes keys and views
abbrev pub ViewStepsSuffice : Type 0
ViewStepsSuffice =
    (dataset : List Quad) (g : GraphRef) (n : ℕ) → enough dataset ≤ n
    → ((s : Term) → key_by (answers_of dataset) n g s ≡ is_key dataset g s)
    × (keys_by (answers_of dataset) n g ≡ keys dataset g)
    × ((s : Term) → view_by (answers_of dataset) n g s ≡ view_of dataset g s)
    × ((property : List ℕ) (node : Term) →
    pointing_by (answers_of dataset) n g property node ≡ pointing dataset g property node)

-- an object that two graphs share under properties has one value in both, so a merged view may take
-- either
abbrev pub SharedObjects : Type 0
SharedObjects =
    (dataset : List Quad) (q r : Quad) → IsTrue (holds dataset q) → IsTrue (holds dataset r) →
    q.object ≡ r.object
    → IsFalse (is_type_quad q) → IsFalse (is_type_quad r)
    → value_of dataset (graph_of q) q.object ≡ value_of dataset (graph_of r) r.object

-- the types of a view are the objects of the quads that tell a type, once each, in order of their
-- ids
abbrev pub TypesAreTold : Type 0
TypesAreTold =
    (quads : List Quad) (t : Term)
    →
    sorted.has term_eq (types_in quads) t
    ≡ list_any (λ q. is_type_quad q && term_eq t q.object) quads

abbrev pub TypesInOrder : Type 0
TypesInOrder = (quads : List Quad) → IsTrue (sorted.ascends id_cmp (types_in quads))

-- the properties of a view are those of its quads, once each, in byte order
abbrev pub PropertiesAreTold : Type 0
PropertiesAreTold =
    (quads : List Quad) (property : List ℕ)
    →
    sorted.has text_eq (properties_in quads) property
    ≡ list_any (λ q. text_eq property (id_of q.predicate)) quads

abbrev pub PropertiesInOrder : Type 0
PropertiesInOrder = (quads : List Quad) → IsTrue (sorted.ascends text_cmp (properties_in quads))

-- the values under a property are those of its objects, once each, in order of their canonical
-- texts
abbrev pub ObjectsAreTold : Type 0
ObjectsAreTold =
    (quads : List Quad) (property : List ℕ) (object : Term)
    → sorted.has term_eq (map (λ q. q.object) (quads_under property quads)) object
    ≡ list_any (λ q. text_eq property (id_of q.predicate) && term_eq object q.object) quads

abbrev pub ObjectsInOrder : Type 0
ObjectsInOrder =
    (quads : List Quad) (property : List ℕ)
    → IsTrue (sorted.ascends term_cmp (map (λ q. q.object) (quads_under property quads)))

-- A quad shows that its subject points at a node under a property in a graph: it lies there and
-- tells no type, the subject is a key of the quad's graph, and the value of the node there is the
-- reference to it.
abbrev pub points : List Quad → GraphRef → List ℕ → Term → Term → Quad → Bool
points dataset g property node s q =
    lies_in g q
    && (term_eq q.subject s
    && (is_key dataset (graph_of q) s
    && (not (is_type_quad q)
    && (text_eq property (id_of q.predicate)
    && (term_eq q.object node && is_reference_to node (value_of dataset (graph_of q) node))))))

-- the keys that point at a node are those of which a quad shows it, once each, in order of their
-- ids
abbrev pub PointingIsTold : Type 0
PointingIsTold =
    (dataset : List Quad) (g : GraphRef) (property : List ℕ) (node s : Term)
    →
    sorted.has term_eq (pointing dataset g property node) s
    ≡ list_any (points dataset g property node s) dataset

abbrev pub PointingInOrder : Type 0
PointingInOrder =
    (dataset : List Quad) (g : GraphRef) (property : List ℕ) (node : Term)
    → IsTrue (sorted.ascends id_cmp (pointing dataset g property node))
