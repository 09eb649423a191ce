-- The graphs of a dataset, its terms and their uses (RDF 1.1 Concepts, sections 3 and 4; JSON-LD
-- 1.1 Framing, section 4.1).
use Rattle.std.specs.Prelude.{List, [], ◌∷◌, ℕ, Bool, true, false, ◌&&◌, not, Option, Some, None}
use Rattle.std.specs.List.{filter, flat_map}
use Rattle.lf_rdf.specs.declared.term.Term.{Term}
use Rattle.lf_rdf.specs.declared.term.Term.TheVariants.{Iri, Blank, Literal}
use Rattle.lf_rdf.specs.declared.quad.Quad.{Quad}
use Rattle.lf_rdf.specs.declared.question.GraphRef.{GraphRef}
use Rattle.lf_rdf.specs.declared.question.GraphRef.TheVariants as graph
use Rattle.lf_rdf.specs.Vocabulary.{rdf_type}
use Rattle.lf_rdf.specs.Equality.{text_eq, term_eq, option_eq}
use Rattle.def_datasets.specs.Sorted as sorted
use Rattle.def_datasets.specs.Order.{id_cmp}

-- a node is an IRI or a blank node
abbrev pub is_node : Term → Bool
is_node (Iri iri) = true
is_node (Blank label) = true
is_node (Literal lexical datatype language) = false

abbrev pub is_blank : Term → Bool
is_blank (Iri iri) = false
is_blank (Blank label) = true
is_blank (Literal lexical datatype language) = false

-- whether a term is this IRI
abbrev pub is_iri : List ℕ → Term → Bool
is_iri iri (Iri other) = text_eq iri other
is_iri iri (Blank label) = false
is_iri iri (Literal lexical datatype language) = false

-- whether the predicate of a quad is `rdf:type`
abbrev pub tells_type : Quad → Bool
tells_type q = is_iri rdf_type q.predicate

-- whether a quad lies in a graph; each lies in the merged graph
abbrev pub lies_in : GraphRef → Quad → Bool
lies_in graph.Default q = option_eq term_eq None q.graph
lies_in (graph.Named name) q = option_eq term_eq (Some name) q.graph
lies_in graph.Merged q = true

-- the graph of this label
abbrev pub graph_named : Option Term → GraphRef
graph_named None = graph.Default
graph_named (Some name) = graph.Named name

-- the graph that a quad lies in
abbrev pub graph_of : Quad → GraphRef
graph_of q = graph_named q.graph

-- the quads of a graph
abbrev pub triples : List Quad → GraphRef → List Quad
triples dataset g = filter (lies_in g) dataset

-- a label, where there is one
abbrev pub label_terms : Option Term → List Term
label_terms None = []
label_terms (Some name) = name ∷ []

-- the graph labels, each once, in order of their ids
abbrev pub names : List Quad → List Term
names dataset = sorted.set_of id_cmp (flat_map (λ q. label_terms q.graph) dataset)

-- the IRIs and blank nodes that are subject, object or graph label of a quad, each once, in order
-- of their ids
abbrev pub terms : List Quad → List Term
terms dataset =
    sorted.set_of id_cmp
    (filter is_node (flat_map (λ q. q.subject ∷ q.object ∷ label_terms q.graph) dataset))

-- a quad uses its object, unless its predicate is `rdf:type`
abbrev pub is_use : Term → Quad → Bool
is_use object q = term_eq q.object object && not (tells_type q)

-- the quads that use a term
abbrev pub uses : List Quad → Term → List Quad
uses dataset object = filter (is_use object) dataset
