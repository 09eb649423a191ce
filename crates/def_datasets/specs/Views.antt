-- The nodes of a graph and what is seen of each: types and properties with their values (JSON-LD
-- 1.1 Processing Algorithms and API, section 7.1: a node map; JSON-LD 1.1 Framing, section 4.1: the
-- merged graph).
use Rattle.std.specs.Prelude.{List, [], ◌∷◌, ◌++◌, map, ℕ, Bool, true, false, ◌&&◌, ◌||◌, not, Option, Some, None, if◌then◌else◌}
use Rattle.std.specs.List.{filter, flat_map, list_any}
use Rattle.std.specs.Ordering.{on}
use Rattle.lf_rdf.specs.declared.term.Term.{Term}
use Rattle.lf_rdf.specs.declared.quad.Quad.{Quad}
use Rattle.lf_rdf.specs.declared.question.GraphRef.{GraphRef}
use Rattle.lf_rdf.specs.declared.question.GraphRef.TheVariants as graph
use Rattle.lf_rdf.specs.Vocabulary.{rdf_nil}
use Rattle.lf_rdf.specs.Canonical.{id_of}
use Rattle.lf_rdf.specs.Equality.{text_eq, term_eq}
use Rattle.lf_model.specs.ValueData.{ListValue, literal, reference, list}
use Rattle.def_datasets.specs.Sorted as sorted
use Rattle.def_datasets.specs.Order.{text_cmp, id_cmp, term_cmp}
use Rattle.def_datasets.specs.Terms.{is_node, is_iri, tells_type, lies_in, graph_of}
use Rattle.def_datasets.specs.Questions.{Answers, answers_of}
use Rattle.def_datasets.specs.Cells.{cell_within, enough}
use Rattle.def_datasets.specs.Values.{value_by}

-- a property of a node and its values
pub record ViewProperty : Type 0 where
  pub property : List ℕ
  pub values : List ListValue

-- what is seen of a node
pub record View : Type 0 where
  pub id : Term
  pub types : List Term
  pub props : List ViewProperty

abbrev pub is_some_quad : List Quad → Bool
is_some_quad [] = false
is_some_quad (q ∷ rest) = true

abbrev pub is_default : GraphRef → Bool
is_default graph.Default = true
is_default (graph.Named name) = false
is_default graph.Merged = false

-- A node of one graph is a key where it isn't a cell there and is a subject, or an object of a quad
-- that tells no type and not `rdf:nil`, or, in the default graph, the name of a graph.
abbrev pub key_in : Answers → ℕ → GraphRef → Term → Bool
key_in answers n g s =
    is_node s && not (cell_within answers g n s)
    && (is_some_quad (answers.out g s)
    || (not (is_iri rdf_nil s) && list_any (lies_in g) (answers.uses s))
    || (is_default g && answers.named s))

-- the graphs in which a node may be a key: the default graph and those of its quads
abbrev pub graphs_with : Answers → Term → List GraphRef
graphs_with answers s = graph.Default ∷ map graph_of (answers.out_any s ++ answers.uses s)

-- whether a node is a key of a graph; the merged graph has the keys of all graphs
abbrev pub key_by : Answers → ℕ → GraphRef → Term → Bool
key_by answers n graph.Default s = key_in answers n graph.Default s
key_by answers n (graph.Named name) s = key_in answers n (graph.Named name) s
key_by answers n graph.Merged s = list_any (λ g. key_in answers n g s) (graphs_with answers s)

-- the nodes of all graphs
abbrev pub members_of_all : Answers → List Term
members_of_all answers =
    let defaults = answers.members graph.Default in
    sorted.set_of id_cmp (defaults
    ++ flat_map (λ name. answers.members (graph.Named name)) (filter answers.named defaults))

abbrev pub members_by : Answers → GraphRef → List Term
members_by answers graph.Default = answers.members graph.Default
members_by answers (graph.Named name) = answers.members (graph.Named name)
members_by answers graph.Merged = members_of_all answers

-- the keys of a graph, in order of their ids
abbrev pub keys_by : Answers → ℕ → GraphRef → List Term
keys_by answers n g = filter (key_by answers n g) (members_by answers g)

-- a quad that tells a type of its subject: its predicate is `rdf:type` and its object a node
abbrev pub is_type_quad : Quad → Bool
is_type_quad q = tells_type q && is_node q.object

-- the types that some quads tell, each once, in order of their ids
abbrev pub types_in : List Quad → List Term
types_in quads = sorted.set_of id_cmp (map (λ q. q.object) (filter is_type_quad quads))

-- the quads of properties, and their properties, each once, in byte order
abbrev pub property_quads : List Quad → List Quad
property_quads quads = filter (λ q. not (is_type_quad q)) quads

abbrev pub properties_in : List Quad → List (List ℕ)
properties_in quads = sorted.set_of text_cmp (map (λ q. id_of q.predicate) quads)

-- the quads of one property, one for each object, in order of the objects' canonical texts
abbrev pub quads_under : List ℕ → List Quad → List Quad
quads_under property quads =
    sorted.set_of (on (λ q. q.object) term_cmp)
    (filter (λ q. text_eq property (id_of q.predicate)) quads)

-- a property and its values; the value of an object is that in the graph of its quad
abbrev pub property_by : Answers → ℕ → List Quad → List ℕ → ViewProperty
property_by answers n quads property =
    record {
      property = property;
      values = map (λ q. value_by answers n (graph_of q) q.object) (quads_under property quads);
    }

-- what some quads tell of their subject
abbrev pub view_from : Answers → ℕ → Term → List Quad → View
view_from answers n s quads =
    let told = property_quads quads in
    record {
      id = s;
      types = types_in quads;
      props = map (property_by answers n told) (properties_in told);
    }

-- the quads of a node that count in a graph; in the merged graph those of the graphs in which it is
-- a key
abbrev pub quads_of : Answers → ℕ → GraphRef → Term → List Quad
quads_of answers n graph.Default s = answers.out graph.Default s
quads_of answers n (graph.Named name) s = answers.out (graph.Named name) s
quads_of answers n graph.Merged s =
    filter (λ q. key_in answers n (graph_of q) s) (answers.out_any s)

-- the view of a key, and none of another term
abbrev pub view_by : Answers → ℕ → GraphRef → Term → Option View
view_by answers n g s =
    if key_by answers n g s then Some (view_from answers n s (quads_of answers n g s)) else None

-- whether a value is the reference to a node
abbrev pub is_reference_to : Term → ListValue → Bool
is_reference_to node (literal term) = false
is_reference_to node (reference term) = term_eq term node
is_reference_to node (list items) = false

-- whether a view has the reference to a node under a property
abbrev pub refers : List ℕ → Term → Option View → Bool
refers property node None = false
refers property node (Some view) =
    list_any
    (λ entry. text_eq entry.property property && list_any (is_reference_to node) entry.values)
    view.props

-- the keys of a graph that have the reference to a node under a property, in order of their ids
abbrev pub pointing_by : Answers → ℕ → GraphRef → List ℕ → Term → List Term
pointing_by answers n g property node =
    filter (λ s. refers property node (view_by answers n g s)) (keys_by answers n g)

-- whether a term is a key of a graph of a dataset, its keys, the view of a key, and the keys that
-- point at a node
abbrev pub is_key : List Quad → GraphRef → Term → Bool
is_key dataset g s = key_by (answers_of dataset) (enough dataset) g s

abbrev pub keys : List Quad → GraphRef → List Term
keys dataset g = keys_by (answers_of dataset) (enough dataset) g

abbrev pub view_of : List Quad → GraphRef → Term → Option View
view_of dataset g s = view_by (answers_of dataset) (enough dataset) g s

abbrev pub pointing : List Quad → GraphRef → List ℕ → Term → List Term
pointing dataset g property node = pointing_by (answers_of dataset) (enough dataset) g property node
