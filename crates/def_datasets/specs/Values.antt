-- The value of an object: a literal, a list or a reference (JSON-LD 1.1 Processing Algorithms and
-- API, section 8.2: RDF to object conversion).
use Rattle.std.specs.Prelude.{List, ℕ, Bool, true, false, if◌then◌else◌, Option, Some, None}
use Rattle.lf_rdf.specs.declared.term.Term.{Term}
use Rattle.lf_rdf.specs.declared.term.Term.TheVariants.{Iri, Blank, Literal}
use Rattle.lf_rdf.specs.declared.quad.Quad.{Quad}
use Rattle.lf_rdf.specs.declared.question.GraphRef.{GraphRef}
use Rattle.lf_rdf.specs.Vocabulary.{rdf_nil}
use Rattle.lf_rdf.specs.Equality.{text_eq}
use Rattle.lf_model.specs.ValueData.{ListValue, literal, reference, list, no_values, value}
use Rattle.def_datasets.specs.Questions.{Answers, answers_of}
use Rattle.def_datasets.specs.Rounds.{within}
use Rattle.def_datasets.specs.Cells.{item_of, rest_of, cell_within, enough}

-- what is found for a term, where there is one
abbrev pub found : (Term → Option ListValue) → Option Term → Option ListValue
found self None = None
found self (Some object) = self object

-- an item before the items of a list
abbrev pub before_items : ListValue → ListValue → Option ListValue
before_items item (literal term) = None
before_items item (reference term) = None
before_items item (list items) = Some (list (value item items))

abbrev pub joined : Option ListValue → Option ListValue → Option ListValue
joined None rest = None
joined (Some item) None = None
joined (Some item) (Some rest) = before_items item rest

-- a cell is the list of its item and then the items of its rest; another node is a reference
abbrev pub cell_or_reference :
    Bool → Answers → GraphRef → (Term → Option ListValue) → Term → Option ListValue
cell_or_reference true answers g self b =
    joined (found self (item_of answers g b)) (found self (rest_of answers g b))
cell_or_reference false answers g self b = Some (reference b)

-- the value of an object, by the cells of its graph and the values of other objects
abbrev pub value_step :
    Answers → GraphRef → (Term → Bool) → (Term → Option ListValue) → Term → Option ListValue
value_step answers g cell self (Literal lexical datatype language) =
    Some (literal (Literal lexical datatype language))
value_step answers g cell self (Iri iri) =
    Some (if text_eq rdf_nil iri then list no_values else reference (Iri iri))
value_step answers g cell self (Blank label) =
    cell_or_reference (cell (Blank label)) answers g self (Blank label)

-- the value of an object, as far as some steps find it
abbrev pub value_within : Answers → GraphRef → ℕ → Term → Option ListValue
value_within answers g n object = within (value_step answers g (cell_within answers g n)) n object

-- the value itself; within enough steps there is one
abbrev pub settled : Term → Option ListValue → ListValue
settled object None = reference object
settled object (Some it) = it

abbrev pub value_by : Answers → ℕ → GraphRef → Term → ListValue
value_by answers n g object = settled object (value_within answers g n object)

-- the value of an object in a graph of a dataset
abbrev pub value_of : List Quad → GraphRef → Term → ListValue
value_of dataset g object = value_by (answers_of dataset) (enough dataset) g object
