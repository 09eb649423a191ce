-- The cells of RDF lists (RDF Schema 1.1, section 5.2; JSON-LD 1.1 Processing Algorithms and API,
-- section 8.1: conversion of lists).
use Rattle.std.specs.Prelude.{List, [], ◌∷◌, ℕ, suc, length, Bool, true, false, ◌&&◌, ◌||◌, not, Option, Some, None}
use Rattle.std.specs.List.{filter}
use Rattle.lf_rdf.specs.declared.term.Term.{Term}
use Rattle.lf_rdf.specs.declared.quad.Quad.{Quad}
use Rattle.lf_rdf.specs.declared.question.GraphRef.{GraphRef}
use Rattle.lf_rdf.specs.Vocabulary.{rdf_first, rdf_rest, rdf_nil, rdf_list}
use Rattle.def_datasets.specs.Terms.{is_blank, is_iri, tells_type, lies_in}
use Rattle.def_datasets.specs.Questions.{Answers, answers_of}
use Rattle.def_datasets.specs.Rounds.{rounds}

-- the quads of a list with this predicate
abbrev pub with_predicate : List ℕ → List Quad → List Quad
with_predicate iri quads = filter (λ q. is_iri iri q.predicate) quads

-- the quads of a list that are neither `rdf:first` nor `rdf:rest`
abbrev pub other_quads : List Quad → List Quad
other_quads quads =
    filter (λ q. not (is_iri rdf_first q.predicate) && not (is_iri rdf_rest q.predicate)) quads

-- there is exactly one
abbrev pub is_one : List Quad → Bool
is_one [] = false
is_one (q ∷ []) = true
is_one (q ∷ r ∷ rest) = false

-- there is at most one, and it tells the type `rdf:List`
abbrev pub at_most_list_type : List Quad → Bool
at_most_list_type [] = true
at_most_list_type (q ∷ []) = tells_type q && is_iri rdf_list q.object
at_most_list_type (q ∷ r ∷ rest) = false

-- there is exactly one, and it lies in this graph
abbrev pub is_one_in : GraphRef → List Quad → Bool
is_one_in g [] = false
is_one_in g (q ∷ []) = lies_in g q
is_one_in g (q ∷ r ∷ rest) = false

-- the triples of a list node: one `rdf:first`, one `rdf:rest` and at most a type `rdf:List`
abbrev pub has_list_form : List Quad → Bool
has_list_form quads =
    is_one (with_predicate rdf_first quads) && is_one (with_predicate rdf_rest quads)
    && at_most_list_type (other_quads quads)

-- a blank node that names no graph, has the triples of a list node in this graph and is used once
-- in all graphs, by a quad of this one
abbrev pub shaped : Answers → GraphRef → Term → Bool
shaped answers g b =
    is_blank b && not (answers.named b) && has_list_form (answers.out g b)
    && is_one_in g (answers.uses b)

-- the object and the subject of the first quad of a list
abbrev pub object_of : List Quad → Option Term
object_of [] = None
object_of (q ∷ rest) = Some q.object

abbrev pub subject_of : List Quad → Option Term
subject_of [] = None
subject_of (q ∷ rest) = Some q.subject

-- the item of a list node, its rest, and the node that uses it
abbrev pub item_of : Answers → GraphRef → Term → Option Term
item_of answers g b = object_of (with_predicate rdf_first (answers.out g b))

abbrev pub rest_of : Answers → GraphRef → Term → Option Term
rest_of answers g b = object_of (with_predicate rdf_rest (answers.out g b))

abbrev pub user_of : Answers → Term → Option Term
user_of answers b = subject_of (answers.uses b)

-- the rest is `rdf:nil` or in the set
abbrev pub ends_or : (Term → Bool) → Option Term → Bool
ends_or set None = false
ends_or set (Some rest) = is_iri rdf_nil rest || set rest

-- one round of proper nodes: those that are shaped and whose rest is `rdf:nil` or proper
abbrev pub proper_if : Bool → (Term → Bool) → Option Term → Bool
proper_if false set rest = false
proper_if true set rest = ends_or set rest

abbrev pub proper_step : Answers → GraphRef → (Term → Bool) → Term → Bool
proper_step answers g set b = proper_if (shaped answers g b) set (rest_of answers g b)

-- the proper nodes of a graph, after some rounds
abbrev pub proper_within : Answers → GraphRef → ℕ → Term → Bool
proper_within answers g n b = rounds (proper_step answers g) n b

-- the user isn't proper, or is in the set
abbrev pub begins_or : (Term → Bool) → (Term → Bool) → Option Term → Bool
begins_or proper set None = false
begins_or proper set (Some user) = not (proper user) || set user

-- one round of cells: the proper nodes whose user isn't proper or is a cell
abbrev pub cell_if : Bool → (Term → Bool) → (Term → Bool) → Option Term → Bool
cell_if false proper set user = false
cell_if true proper set user = begins_or proper set user

abbrev pub cell_step : Answers → (Term → Bool) → (Term → Bool) → Term → Bool
cell_step answers proper set b = cell_if (proper b) proper set (user_of answers b)

-- the cells of a graph, after some rounds
abbrev pub cell_within : Answers → GraphRef → ℕ → Term → Bool
cell_within answers g n b = rounds (cell_step answers (proper_within answers g n)) n b

-- the first round and as many more as there are quads: then no round adds any
abbrev pub enough : List Quad → ℕ
enough dataset = suc (length dataset)

-- the shaped nodes, the proper nodes and the cells of a graph of a dataset
abbrev pub is_shaped : List Quad → GraphRef → Term → Bool
is_shaped dataset g b = shaped (answers_of dataset) g b

abbrev pub is_proper : List Quad → GraphRef → Term → Bool
is_proper dataset g b = proper_within (answers_of dataset) g (enough dataset) b

abbrev pub is_cell : List Quad → GraphRef → Term → Bool
is_cell dataset g b = cell_within (answers_of dataset) g (enough dataset) b
