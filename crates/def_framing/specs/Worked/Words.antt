-- The words of the worked cases.
use Rattle.std.specs.Prelude.{List, [], ◌∷◌, ℕ, codes, Some, None}
use Rattle.lf_rdf.specs.declared.term.Term.{Term}
use Rattle.lf_rdf.specs.declared.term.Term.TheVariants.{Iri, Blank, Literal}
use Rattle.lf_rdf.specs.declared.quad.Quad.{Quad}
use Rattle.lf_rdf.specs.Vocabulary.{xsd_string}
use Rattle.lf_model.specs.declared.frame.IdTest.TheVariants as id_test
use Rattle.lf_model.specs.TreeData.{TreeNode, TreeEntry, TreeEntries, tree, no_nodes, no_reverses, properties_of, entries_of}
use Rattle.def_nested.specs.Nested.{Nested, Flags, Props, frame_map, no_reverses as no_reverse_props, no_graph, node_frame, plain, wildcard}

unfoldable pub a : Term
a = Iri (codes "http://e/a")

unfoldable pub b : Term
b = Iri (codes "http://e/b")

unfoldable pub c : Term
c = Iri (codes "http://e/c")

unfoldable pub g : Term
g = Iri (codes "http://e/g")

unfoldable pub x : Term
x = Blank (codes "x")

unfoldable pub l : List ℕ
l = codes "http://e/l"

unfoldable pub n : List ℕ
n = codes "http://e/n"

unfoldable pub p : List ℕ
p = codes "http://e/p"

unfoldable pub q : List ℕ
q = codes "http://e/q"

-- a plain string
abbrev pub string : List ℕ → Term
string lexical = Literal lexical xsd_string None

-- a quad of the default graph, and one of a named graph
abbrev pub quad : Term → List ℕ → Term → Quad
quad subject predicate object =
    record { subject = subject; predicate = Iri predicate; object = object; graph = None }

abbrev pub quad_in : Term → Term → List ℕ → Term → Quad
quad_in name subject predicate object =
    record { subject = subject; predicate = Iri predicate; object = object; graph = Some name }

-- the wildcard `{}`
abbrev pub any : Nested
any = wildcard plain

-- a node frame with these flags and properties
abbrev pub form : Flags → Props → Nested
form flags props = frame_map flags props no_reverse_props no_graph node_frame

-- the flags of a frame with this `@id`
abbrev pub named : Term → Flags
named id = record plain { ids = id_test.OneOf (id ∷ []) }

abbrev pub entries : List (List ℕ × List TreeEntry) → List (List ℕ × TreeEntries)
entries [] = []
entries (first ∷ rest) = (first.0, entries_of first.1) ∷ entries rest

-- a node object without graph and reverse properties
abbrev pub output : Term → List Term → List (List ℕ × List TreeEntry) → TreeNode
output id types props = tree (Some id) types no_nodes (properties_of (entries props)) no_reverses

-- a reference to a node, or a node without types and properties
abbrev pub bare : Term → TreeNode
bare id = output id [] []
