-- What points at a node: the quads that may, and the test of their subjects.
use Rattle.std.specs.Prelude.{◌⊎◌, List, [], ◌∷◌, ℕ, nat_eq, Bool, false, ◌&&◌, ◌||◌, not, IsTrue, if◌then◌else◌, Option, Some, None}
use Rattle.std.specs.List.{filter}
use Rattle.lf_rdf.specs.declared.term.Term.{Term}
use Rattle.lf_rdf.specs.declared.quad.Quad.{Quad}
use Rattle.lf_rdf.specs.declared.question.GraphRef.{GraphRef}
use Rattle.lf_rdf.specs.declared.question.Question.{Question}
use Rattle.lf_rdf.specs.Vocabulary.{rdf_first, rdf_rest, rdf_nil, rdf_type}
use Rattle.lf_rdf.specs.Canonical.{id_of}
use Rattle.lf_rdf.specs.Equality.{text_eq, term_eq, quad_eq}
use Rattle.def_datasets.specs.Terms.{is_node, is_iri, lies_in, graph_of}
use Rattle.def_datasets.specs.Questions.{named}
use Rattle.def_datasets.specs.Cells.{is_cell}
use Rattle.def_datasets.specs.Views.{is_type_quad, keys}
use Rattle.def_datasets.specs.Sorted.{has}
use Rattle.lf_rdf.specs.declared.question.GraphRef.TheVariants as graph
use Rattle.lf_lists.specs.Learning.{NearTo}

-- a quad of a graph points at an object under a property, if the object's value is a reference
abbrev pub is_arrow : GraphRef → List ℕ → Term → Quad → Bool
is_arrow g property node q =
    lies_in g q
    && (not (is_type_quad q) && (text_eq property (id_of q.predicate) && term_eq q.object node))

abbrev pub arrows : List Quad → GraphRef → List ℕ → Term → List Quad
arrows dataset g property node = filter (is_arrow g property node) dataset

-- a text is the id of an IRI alone, and of none but `rdf:type`
abbrev pub begins_plainly : List ℕ → Bool
begins_plainly [] = false
begins_plainly (b ∷ rest) = not (nat_eq b 95)

abbrev pub is_plain : List ℕ → Bool
is_plain property = begins_plainly property && not (text_eq rdf_type property)

-- a quad tells the item or the rest of a list node
abbrev pub is_link : Quad → Bool
is_link q = is_iri rdf_first q.predicate || is_iri rdf_rest q.predicate

-- the subject of a quad that tells no type is a key of the quad's graph
abbrev pub subject_test : List Quad → Quad → Bool
subject_test dataset q =
    is_node q.subject && (not (is_link q) || not (is_cell dataset (graph_of q) q.subject))

-- only for the quads of list nodes is anything asked, near their subjects
abbrev pub LinkNear : List Quad → Quad → Question → Type 0
LinkNear dataset q question = IsTrue (is_link q) × NearTo dataset q.subject question

abbrev pub AnyLinkNear : List Quad → List Quad → Question → Type 0
AnyLinkNear dataset quads question =
    (q : Quad) × (IsTrue (has quad_eq quads q) × LinkNear dataset q question)

-- near the node, or near the subject of one of these quads
abbrev pub NodeOrLinkNear : List Quad → Term → List Quad → Question → Type 0
NodeOrLinkNear dataset node quads question =
    NearTo dataset node question ⊎ AnyLinkNear dataset quads question

-- the first of some quads
abbrev pub first_quad : List Quad → Option Quad
first_quad [] = None
first_quad (q ∷ rest) = Some q

-- a node's value is a reference to it
abbrev pub is_referred : List Quad → GraphRef → Term → Bool
is_referred dataset g node = not (is_iri rdf_nil node) && not (is_cell dataset g node)

-- the keys of a named graph, where the name has one
abbrev pub named_keys : List Quad → Term → List Term
named_keys dataset name = if named dataset name then keys dataset (graph.Named name) else []
