-- What holds of the values of objects, whatever the dataset (JSON-LD 1.1 Processing Algorithms and
-- API, section 8.2).
use Rattle.std.specs.Prelude.{◌≡◌, List, [], ◌∷◌, map, ℕ, ◌≤◌, Option, Some, IsTrue, IsFalse}
use Rattle.lf_rdf.specs.declared.term.Term.{Term}
use Rattle.lf_rdf.specs.declared.term.Term.TheVariants.{Iri, Literal}
use Rattle.lf_rdf.specs.declared.quad.Quad.{Quad}
use Rattle.lf_rdf.specs.declared.question.GraphRef.{GraphRef}
use Rattle.lf_rdf.specs.Vocabulary.{rdf_nil}
use Rattle.lf_model.specs.ValueData.{literal, reference, list, ListValues, no_values, value, values_of}
use Rattle.def_datasets.specs.Terms.{is_node, is_iri}
use Rattle.def_datasets.specs.Questions.{answers_of}
use Rattle.def_datasets.specs.Cells.{item_of, rest_of, enough, is_cell}
use Rattle.def_datasets.specs.Values.{value_within, value_of}

-- the value of a literal is the literal
abbrev pub LiteralValues : Type 0
LiteralValues =
    (dataset : List Quad) (g : GraphRef) (lexical datatype : List ℕ) (language : Option (List ℕ))
    →
    value_of dataset g (Literal lexical datatype language)
    ≡ literal (Literal lexical datatype language)

-- the value of `rdf:nil` is the empty list
abbrev pub NilValue : Type 0
NilValue = (dataset : List Quad) (g : GraphRef) → value_of dataset g (Iri rdf_nil) ≡ list no_values

-- the value of any other node that isn't a cell is the reference to it
abbrev pub ReferenceValues : Type 0
ReferenceValues =
    (dataset : List Quad) (g : GraphRef) (node : Term) → IsTrue (is_node node) →
    IsFalse (is_iri rdf_nil node)
    → IsFalse (is_cell dataset g node) → value_of dataset g node ≡ reference node

-- the value of a cell is the list of the value of its item and then the items of its rest
abbrev pub CellValues : Type 0
CellValues =
    (dataset : List Quad) (g : GraphRef) (b : Term) → IsTrue (is_cell dataset g b)
    →
    (item : Term) × (rest : Term) × (items : ListValues)
    × (item_of (answers_of dataset) g b ≡ Some item)
    × (rest_of (answers_of dataset) g b ≡ Some rest) × (value_of dataset g rest ≡ list items)
    × (value_of dataset g b ≡ list (value (value_of dataset g item) items))

-- these are the items of the cells from a node on, along `rdf:rest` to `rdf:nil`
abbrev pub ItemsFrom : List Quad → GraphRef → Term → List Term → Type 0
ItemsFrom dataset g b [] = b ≡ Iri rdf_nil
ItemsFrom dataset g b (item ∷ items) =
    IsTrue (is_cell dataset g b) × (item_of (answers_of dataset) g b ≡ Some item)
    × ((rest : Term) × (rest_of (answers_of dataset) g b ≡ Some rest)
    × ItemsFrom dataset g rest items)

-- the items of a list come back in order
abbrev pub ItemsInOrder : Type 0
ItemsInOrder =
    (dataset : List Quad) (g : GraphRef) (b : Term) (items : List Term) →
    ItemsFrom dataset g b items
    → value_of dataset g b ≡ list (values_of (map (value_of dataset g) items))

-- the value is found within one step more than there are quads, and no further step changes it
abbrev pub StepsSuffice : Type 0
StepsSuffice =
    (dataset : List Quad) (g : GraphRef) (n : ℕ) (object : Term) → enough dataset ≤ n
    → value_within (answers_of dataset) g n object ≡ Some (value_of dataset g object)
