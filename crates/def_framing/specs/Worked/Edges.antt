-- Worked cases: graphs in graphs, flags of sub-frames, lists in lists and the count of references.
use Rattle.std.specs.Prelude.{◌≡◌, List, [], ◌∷◌, ℕ, codes, true, false, Some, None}
use Rattle.lf_rdf.specs.declared.term.Term.{Term}
use Rattle.lf_rdf.specs.declared.term.Term.TheVariants.{Iri, Blank}
use Rattle.lf_rdf.specs.declared.question.GraphRef.TheVariants.{Merged}
use Rattle.lf_rdf.specs.Vocabulary.{xsd_string, rdf_type, rdf_first, rdf_rest, rdf_nil, rdf_list}
use Rattle.lf_model.specs.declared.frame.Embed.TheVariants.{Never}
use Rattle.lf_model.specs.declared.frame.TypeTest.TheVariants as type_test
use Rattle.lf_model.specs.declared.frame.DefaultValue.{DefaultValue}
use Rattle.lf_model.specs.declared.frame.DefaultValue.TheVariants.{Null, Scalar}
use Rattle.lf_model.specs.declared.scalar.Scalar.TheVariants.{Text}
use Rattle.lf_model.specs.declared.document.Limit.TheVariants.{TreeItems}
use Rattle.lf_model.specs.TreeData.{TreeNode, TreeEntry, tree, nodes_of, no_nodes, no_reverses, properties_of, entries_of, reverses_of, node_entry, literal_entry, list_entry, fallback_entry}
use Rattle.def_nested.specs.Nested as nested
use Rattle.def_nested.specs.Nested.{Nested, Kind, match_none, frame_map, no_props, prop, reverse_prop, no_graph, in_graph, node_frame, list_pattern, list_pattern_of, plain, wildcard}
use Rattle.def_framing.specs.Views.{Views, of_dataset}
use Rattle.def_framing.specs.Results.{gives, over}
use Rattle.def_framing.specs.Matching.{accepts, kind_accepts, prop_tests}
use Rattle.def_framing.specs.Parts.{emit, emit_all}
use Rattle.def_framing.specs.Embedding.{embed}
use Rattle.def_framing.specs.Outcome.{no_match, matched, framed_graph, outcome_in}
use Rattle.def_framing.specs.Worked.Words.{a, b, c, g, l, n, p, q, any, string, quad, quad_in, output, bare, form, named, entries}
use Rattle.def_framing.specs.Worked.Defaults.{apart}
use Rattle.def_framing.specs.Worked.FlagCases.{linked}
use Rattle.def_framing.specs.Worked.Shared.{cycle}
use Rattle.def_framing.specs.Worked.Limits.{small}
use mathlib.Core.Path.{refl}

unfoldable pub h : Term
h = Iri (codes "http://e/h")

-- a node object with the nodes of its graph
abbrev holding : Term → List (List ℕ × List TreeEntry) → List TreeNode → TreeNode
holding id props nodes =
    tree (Some id) [] (nodes_of nodes) (properties_of (entries props)) no_reverses

abbrev saying : List ℕ → List TreeEntry
saying word = literal_entry (string word) ∷ []

-- a node refers to a graph
unfoldable pub refers : Views
refers = of_dataset (quad b p g ∷ quad_in g a p (string (codes "1")) ∷ [])

-- the frame `{"http://e/p": {"@graph": {}}}`: its graph is the merged one
unfoldable pub graph_below : Nested
graph_below = form plain
    (prop p (frame_map plain no_props nested.no_reverses (in_graph any) node_frame) no_props)

pub entered_where_asked :
    outcome_in refers graph_below Merged b
    ≡ matched (output b [] ((
      p,
      node_entry (holding g [] (output a [] ((p, saying (codes "1")) ∷ []) ∷ [])) ∷ [],
    )
    ∷ []))
unfolding embed emit emit_all accepts kind_accepts prop_tests refers graph_below a b g p xsd_string
    rdf_type rdf_first rdf_rest rdf_nil rdf_list
entered_where_asked = refl

pub not_entered_unasked :
    outcome_in refers (form plain (prop p any no_props)) Merged b
    ≡ matched (output b [] ((p, node_entry (bare g) ∷ []) ∷ []))
unfolding embed emit emit_all accepts kind_accepts prop_tests refers a b g p xsd_string rdf_type
    rdf_first rdf_rest rdf_nil rdf_list
not_entered_unasked = refl

-- a graph holds the node that names it
unfoldable pub in_itself : Views
in_itself = of_dataset (quad_in g g p (string (codes "1")) ∷ [])

pub not_entered_in_itself :
    outcome_in in_itself any (framed_graph true) g
    ≡ matched (holding g [] (output g [] ((p, saying (codes "1")) ∷ []) ∷ []))
unfolding embed emit emit_all accepts kind_accepts prop_tests in_itself g p xsd_string rdf_type
    rdf_first rdf_rest rdf_nil rdf_list
not_entered_in_itself = refl

-- each of two graphs holds the node that names the other
unfoldable pub in_each_other : Views
in_each_other =
    of_dataset (quad_in g h p (string (codes "1")) ∷ quad_in h g p (string (codes "2")) ∷ [])

pub entered_once_on_a_path :
    outcome_in in_each_other any (framed_graph true) g
    ≡ matched (holding g [] (holding h ((p, saying (codes "1")) ∷ [])
    (output g [] ((p, saying (codes "2")) ∷ []) ∷ []) ∷ []))
unfolding embed emit emit_all accepts kind_accepts prop_tests in_each_other g h p xsd_string
    rdf_type rdf_first rdf_rest rdf_nil rdf_list
entered_once_on_a_path = refl

-- the frame `{"@requireAll": true, "http://e/p": {}, "http://e/q": {"@default": "d"}}`
unfoldable pub d : DefaultValue
d = Scalar (Text (codes "d")) None None

unfoldable pub q_or_d : Nested
q_or_d =
    form (record plain { require_all = true })
    (prop p any (prop q (wildcard (record plain { fallback = Some (d ∷ []) })) no_props))

pub default_for_absent :
    outcome_in apart q_or_d Merged a
    ≡ matched (output a [] ((p, saying (codes "1")) ∷ (q, fallback_entry d ∷ []) ∷ []))
unfolding embed emit emit_all accepts kind_accepts prop_tests apart q_or_d a b p q d xsd_string
    rdf_type rdf_first rdf_rest rdf_nil rdf_list
default_for_absent = refl

pub no_default_for_absent : outcome_in apart q_or_d Merged b ≡ no_match
unfolding embed emit emit_all accepts kind_accepts prop_tests apart q_or_d a b p q d xsd_string
    rdf_type rdf_first rdf_rest rdf_nil rdf_list
no_default_for_absent = refl

-- the frame `{"@omitDefault": true, "http://e/n": {"@omitDefault": false}, "http://e/p": []}`
unfoldable pub omitting : Nested
omitting =
    form (record plain { omit_default = Some true })
    (prop n (wildcard (record plain { omit_default = Some false })) (prop p match_none no_props))

-- the sub-frame's own flag decides before the frame's; match-none has none of its own
pub own_flag_first :
    outcome_in apart omitting Merged b
    ≡ matched (output b [] ((q, saying (codes "2")) ∷ (n, fallback_entry Null ∷ []) ∷ []))
unfolding embed emit emit_all accepts kind_accepts prop_tests apart omitting a b n p q xsd_string
    rdf_type rdf_first rdf_rest rdf_nil rdf_list
own_flag_first = refl

-- the frame `{"@id": "http://e/a", "@embed": "@never"}`: the top is embedded all the same, and its
-- properties inherit the flag
unfoldable pub never_below : Nested
never_below = form (record (named a) { embed = Never }) no_props

pub flag_inherited :
    outcome_in linked never_below Merged a
    ≡ matched (output a [] ((n, saying (codes "A")) ∷ (p, node_entry (bare b) ∷ []) ∷ []))
unfolding embed emit emit_all accepts kind_accepts prop_tests linked never_below a b n p xsd_string
    rdf_type rdf_first rdf_rest rdf_nil rdf_list
flag_inherited = refl

-- the frame `{"@id": "http://e/b", "@type": ["http://e/c"]}`: the id test alone decides
unfoldable pub b_typed_c : Nested
b_typed_c = form (record (named b) { types = type_test.OneOf (c ∷ []) }) no_props

pub id_decides :
    outcome_in linked b_typed_c Merged b ≡ matched (output b [] ((n, saying (codes "B")) ∷ []))
unfolding embed emit emit_all accepts kind_accepts prop_tests linked b_typed_c a b c n p xsd_string
    rdf_type rdf_first rdf_rest rdf_nil rdf_list
id_decides = refl

-- the frame `{"@id": "http://e/a", "@reverse": {"http://e/p": {}}}`: what was embedded under a
-- property is a reference there
unfoldable pub pointed_at : Nested
pointed_at =
    frame_map (named a) no_props (reverse_prop p any nested.no_reverses) no_graph node_frame

pub once_in_reverse :
    outcome_in cycle pointed_at Merged a
    ≡ matched
    (tree (Some a) [] no_nodes (properties_of (entries ((p, node_entry (output b [] ((p, node_entry (bare a) ∷ []) ∷ [])) ∷ []) ∷ [])))
    (reverses_of ((p, nodes_of (bare b ∷ [])) ∷ [])))
unfolding embed emit emit_all accepts kind_accepts prop_tests cycle pointed_at a b p xsd_string
    rdf_type rdf_first rdf_rest rdf_nil rdf_list
once_in_reverse = refl

-- a node holds the empty list, and another a list of a string and a list
unfoldable pub c1 : Term
c1 = Blank (codes "c1")

unfoldable pub c2 : Term
c2 = Blank (codes "c2")

unfoldable pub d1 : Term
d1 = Blank (codes "d1")

unfoldable pub lists : Views
lists =
    of_dataset
    (quad a l c1
    ∷ quad b l (Iri rdf_nil)
    ∷ quad c1 rdf_first (string (codes "1"))
    ∷ quad c1 rdf_rest c2
    ∷ quad c2 rdf_first d1
    ∷ quad c2 rdf_rest (Iri rdf_nil)
    ∷ quad d1 rdf_first (string (codes "2"))
    ∷ quad d1 rdf_rest (Iri rdf_nil)
    ∷ [])

-- the frame `{"http://e/l": {"@list": ..}}`
abbrev listing : Kind → Nested
listing kind =
    form plain (prop l (frame_map plain no_props nested.no_reverses no_graph kind) no_props)

-- of the items that list is output which the item pattern accepts
pub list_in_list :
    outcome_in lists (listing
    (list_pattern_of (frame_map plain no_props nested.no_reverses no_graph list_pattern)))
    Merged a
    ≡ matched (output a [] ((
      l,
      list_entry (entries_of (list_entry (entries_of (saying (codes "2"))) ∷ [])) ∷ [],
    )
    ∷ []))
unfolding embed emit emit_all accepts kind_accepts prop_tests lists a b l c1 c2 d1 xsd_string
    rdf_type rdf_first rdf_rest rdf_nil rdf_list
list_in_list = refl

-- a wild item pattern accepts the empty list, another doesn't
pub empty_by_wild :
    outcome_in lists (listing (list_pattern_of any)) Merged b
    ≡ matched (output b [] ((l, list_entry (entries_of []) ∷ []) ∷ []))
unfolding embed emit emit_all accepts kind_accepts prop_tests lists a b l c1 c2 d1 xsd_string
    rdf_type rdf_first rdf_rest rdf_nil rdf_list
empty_by_wild = refl

pub empty_by_other :
    outcome_in lists (listing (list_pattern_of (form plain no_props))) Merged b ≡ no_match
unfolding embed emit emit_all accepts kind_accepts prop_tests lists a b l c1 c2 d1 xsd_string
    rdf_type rdf_first rdf_rest rdf_nil rdf_list
empty_by_other = refl

-- a reference is an item
pub last_reference :
    embed small 256 Merged a (wildcard (record plain { embed = Never })) false []
    (record { embedded = []; count = 65535 })
    ≡ gives (bare a) (record { embedded = []; count = 65536 })
unfolding embed a
last_reference = refl

pub one_reference_more :
    embed small 256 Merged a (wildcard (record plain { embed = Never })) false []
    (record { embedded = []; count = 65536 })
    ≡ over TreeItems
unfolding embed a
one_reference_more = refl
