-- Worked cases: reverse properties, named graphs and lists.
use Rattle.std.specs.Prelude.{◌≡◌, [], ◌∷◌, codes, true, false, Some}
use Rattle.lf_rdf.specs.declared.term.Term.{Term}
use Rattle.lf_rdf.specs.declared.term.Term.TheVariants.{Iri, Blank}
use Rattle.lf_rdf.specs.declared.question.GraphRef.TheVariants.{Merged}
use Rattle.lf_rdf.specs.Vocabulary.{xsd_string, rdf_type, rdf_first, rdf_rest, rdf_nil, rdf_list}
use Rattle.lf_model.specs.TreeData.{tree, nodes_of, no_nodes, no_properties, no_reverses, properties_of, entries_of, reverses_of, node_entry, literal_entry, list_entry}
use Rattle.def_nested.specs.Nested as nested
use Rattle.def_nested.specs.Nested.{Nested, frame_map, no_props, reverse_prop, no_graph, node_frame, plain}
use Rattle.def_framing.specs.Views.{Views, of_dataset}
use Rattle.def_framing.specs.Worked.Words.{string, output, bare, quad, quad_in, a, b, g, l, n, p, any, form, named}
use Rattle.def_framing.specs.Matching.{accepts, kind_accepts, prop_tests}
use Rattle.def_framing.specs.Parts.{emit, emit_all}
use Rattle.def_framing.specs.Embedding.{embed}
use Rattle.def_framing.specs.Outcome.{not_key, matched, framed_graph, outcome_in}
use mathlib.Core.Path.{refl}

-- the frame `{"@id": "http://e/a", "@reverse": {"http://e/p": {}}}`
unfoldable pub pointed_at : Nested
pointed_at =
    frame_map (named a) no_props (reverse_prop p any nested.no_reverses) no_graph node_frame

-- one node, before another refers to it
unfoldable pub alone : Views
alone = of_dataset (quad a n (string (codes "A")) ∷ [])

pub none_points :
    outcome_in alone pointed_at Merged a
    ≡ matched (output a [] ((n, literal_entry (string (codes "A")) ∷ []) ∷ []))
unfolding embed emit emit_all accepts kind_accepts prop_tests alone pointed_at a p n xsd_string
    rdf_type rdf_first rdf_rest rdf_nil rdf_list
none_points = refl

-- and after
unfoldable pub arrived : Views
arrived = of_dataset (quad a n (string (codes "A")) ∷ quad b p a ∷ [])

pub one_points :
    outcome_in arrived pointed_at Merged a
    ≡ matched
    (tree (Some a) [] no_nodes
    (properties_of ((n, entries_of (literal_entry (string (codes "A")) ∷ [])) ∷ []))
    (reverses_of ((p, nodes_of (output b [] ((p, node_entry (bare a) ∷ []) ∷ []) ∷ [])) ∷ [])))
unfolding embed emit emit_all accepts kind_accepts prop_tests arrived pointed_at a b p n xsd_string
    rdf_type rdf_first rdf_rest rdf_nil rdf_list
one_points = refl

-- a node lies in a named graph; the name is a key of the default graph
unfoldable pub in_named : Views
in_named = of_dataset (quad_in g a p (string (codes "1")) ∷ [])

-- the frame `{"@graph": {}}`: its graph is the default one, and it is the frame `{}` in it
pub graph_entered :
    outcome_in in_named any (framed_graph true) g
    ≡ matched
    (tree (Some g) [] (nodes_of (output a [] ((p, literal_entry (string (codes "1")) ∷ []) ∷ []) ∷ []))
    no_properties no_reverses)
unfolding embed emit emit_all accepts kind_accepts prop_tests in_named a g p xsd_string rdf_type
    rdf_first rdf_rest rdf_nil rdf_list
graph_entered = refl

pub named_node_no_key : outcome_in in_named any (framed_graph true) a ≡ not_key
unfolding embed emit emit_all accepts kind_accepts prop_tests in_named a g p xsd_string rdf_type
    rdf_first rdf_rest rdf_nil rdf_list
named_node_no_key = refl

-- the frame `{}`: the graphs are merged, and none is entered
pub graph_merged : outcome_in in_named any (framed_graph false) g ≡ matched (bare g)
unfolding embed emit emit_all accepts kind_accepts prop_tests in_named a g p xsd_string rdf_type
    rdf_first rdf_rest rdf_nil rdf_list
graph_merged = refl

pub named_node_merged :
    outcome_in in_named any (framed_graph false) a
    ≡ matched (output a [] ((p, literal_entry (string (codes "1")) ∷ []) ∷ []))
unfolding embed emit emit_all accepts kind_accepts prop_tests in_named a g p xsd_string rdf_type
    rdf_first rdf_rest rdf_nil rdf_list
named_node_merged = refl

-- a list of a plain value, a list and a node
unfoldable pub c1 : Term
c1 = Blank (codes "c1")

unfoldable pub c2 : Term
c2 = Blank (codes "c2")

unfoldable pub c3 : Term
c3 = Blank (codes "c3")

unfoldable pub d1 : Term
d1 = Blank (codes "d1")

unfoldable pub with_list : Views
with_list =
    of_dataset
    (quad a l c1
    ∷ quad c1 rdf_first (string (codes "1"))
    ∷ quad c1 rdf_rest c2
    ∷ quad c2 rdf_first d1
    ∷ quad c2 rdf_rest c3
    ∷ quad c3 rdf_first b
    ∷ quad c3 rdf_rest (Iri rdf_nil)
    ∷ quad d1 rdf_first (string (codes "2"))
    ∷ quad d1 rdf_rest (Iri rdf_nil)
    ∷ [])

pub list_kept :
    outcome_in with_list (form (named a) no_props) Merged a
    ≡ matched
    (output a []
    ((
      l,
      list_entry
          (entries_of
          (literal_entry (string (codes "1"))
          ∷ list_entry (entries_of (literal_entry (string (codes "2")) ∷ []))
          ∷ node_entry (bare b)
          ∷ []))
          ∷ [],
    )
    ∷ []))
unfolding embed emit emit_all accepts kind_accepts prop_tests with_list a b l c1 c2 c3 d1 xsd_string
    rdf_type rdf_first rdf_rest rdf_nil rdf_list
list_kept = refl
