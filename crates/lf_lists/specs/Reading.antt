-- Lists that are read item by item (JSON-LD 1.1 Processing Algorithms and API, section 8.2).
use Rattle.std.specs.Prelude.{◌≡◌, ◌+◌, ◌<◌, ⊤, ℕ, List, [], ◌∷◌, ◌++◌, map, Option, Some, None, All, IsTrue}
use Rattle.lf_rdf.specs.declared.term.Term.{Term}
use Rattle.lf_rdf.specs.declared.term.Term.TheVariants.{Iri, Blank, Literal}
use Rattle.lf_rdf.specs.declared.quad.Quad.{Quad}
use Rattle.lf_rdf.specs.declared.question.GraphRef.{GraphRef}
use Rattle.lf_model.specs.declared.value.Value.{Value}
use Rattle.lf_model.specs.ValueData.{ListValue, literal, reference, list, ListValues, no_values, value}
use Rattle.lf_model.specs.ValueBridge.{value_data, values_data}
use Rattle.def_datasets.specs.Near.{Near}
use Rattle.def_datasets.specs.Questions.{answers_of}
use Rattle.def_datasets.specs.Cells.{item_of, rest_of, is_cell}
use Rattle.def_datasets.specs.Values.{value_of}
use Rattle.lf_lists.specs.declared.reader.OpenList.{OpenList}
use Rattle.lf_lists.specs.declared.reader.Reader.{Reader}
use Rattle.lf_lists.specs.declared.reader.Parts.{Parts}
use Rattle.lf_lists.specs.declared.reader.Turn.{Turn}
use Rattle.lf_lists.specs.declared.reader.Turn.TheVariants.{Whole, Goes}

-- ---- values

-- the items of a value, and the list that it is
abbrev pub items_in : ListValue → ListValues
items_in (literal term) = no_values
items_in (reference term) = no_values
items_in (list items) = items

abbrev pub list_in : ListValue → Option ListValues
list_in (literal term) = None
list_in (reference term) = None
list_in (list items) = Some items

-- the value of a term that stands for no list
abbrev pub plain : Term → ListValue
plain (Iri iri) = reference (Iri iri)
plain (Blank label) = reference (Blank label)
plain (Literal lexical datatype language) = literal (Literal lexical datatype language)

abbrev pub items_at : List Quad → GraphRef → Term → ListValues
items_at dataset g t = items_in (value_of dataset g t)

-- a term stands for a list
abbrev pub IsListAt : List Quad → GraphRef → Term → Type 0
IsListAt dataset g t = value_of dataset g t ≡ list (items_at dataset g t)

-- these are all items of the list that a cell stands for
abbrev pub ReadsAll : List Quad → GraphRef → Term → List Value → Type 0
ReadsAll dataset g head items =
    IsTrue (is_cell dataset g head) → value_of dataset g head ≡ list (values_data items)

-- ---- readers

-- some values before others
abbrev pub before_all : List ListValue → ListValues → ListValues
before_all [] more = more
before_all (x ∷ xs) more = value x (before_all xs more)

-- the items of the outermost list, where the lists inside one another wait and the innermost has
-- these items
abbrev pub nested_in : List Quad → GraphRef → List OpenList → ListValues → ListValues
nested_in dataset g [] inner = inner
nested_in dataset g (o ∷ os) inner =
    before_all (map value_data o.items)
    (value (list (nested_in dataset g os inner)) (items_at dataset g o.rest))

-- the items that a reader will have read at its end
abbrev pub read_in : List Quad → GraphRef → Reader → ListValues
read_in dataset g r = nested_in dataset g r.open.items
    (before_all (map value_data r.items) (items_at dataset g r.rest))

-- how much is left to read: two for each item, and one for each list that waits
abbrev mutual
  pub weight : ListValue → ℕ
  weight (literal term) = 0
  weight (reference term) = 0
  weight (list items) = weight_all items

  pub weight_all : ListValues → ℕ
  weight_all no_values = 0
  weight_all (value v more) = 2 + weight v + weight_all more

abbrev pub weight_open : List Quad → GraphRef → List OpenList → ℕ
weight_open dataset g [] = 0
weight_open dataset g (o ∷ os) =
    1 + weight_all (items_at dataset g o.rest) + weight_open dataset g os

abbrev pub left_in : List Quad → GraphRef → Reader → ℕ
left_in dataset g r = weight_all (items_at dataset g r.rest) + weight_open dataset g r.open.items

-- a reader goes on with lists
pub record GoesOn (dataset : List Quad) (g : GraphRef) (r : Reader) : Type 0 where
  pub here : IsListAt dataset g r.rest
  pub waiting : All (λ o. IsListAt dataset g o.rest) r.open.items

-- where a reader goes on is near a term
pub record AreNear (dataset : List Quad) (origin : Term) (r : Reader) : Type 0 where
  pub here : Near dataset [] origin r.rest
  pub waiting : All (λ o. Near dataset [] origin o.rest) r.open.items

-- ---- steps

-- the item and the rest of a cell
abbrev pub ArePartsOf : List Quad → GraphRef → Term → Parts → Type 0
ArePartsOf dataset g cell parts =
    (item_of (answers_of dataset) g cell ≡ Some parts.item)
    × (rest_of (answers_of dataset) g cell ≡ Some parts.rest)

-- a reader goes on with the item of a cell, and its rest waits
pub record GoesUnder (before : Reader) (parts : Parts) (after : Reader) : Type 0 where
  pub outer : OpenList
  pub kept : outer.items ≡ before.items
  pub next : outer.rest ≡ parts.rest
  pub opens : after.open.items ≡ before.open.items ++ outer ∷ []
  pub items : after.items ≡ []
  pub rest : after.rest ≡ parts.item

-- a reader puts the item of a cell behind the others and goes on with its rest
pub record GoesAlong (before : Reader) (parts : Parts) (after : Reader) : Type 0 where
  pub item : Value
  pub plainly : value_data item ≡ plain parts.item
  pub opens : after.open.items ≡ before.open.items
  pub items : after.items ≡ before.items ++ item ∷ []
  pub rest : after.rest ≡ parts.rest

-- one step of a reader: it goes on with lists, will have read the same, and less is left
pub record StepsOn (dataset : List Quad) (g : GraphRef) (before after : Reader) : Type 0 where
  pub goes : GoesOn dataset g after
  pub same : read_in dataset g after ≡ read_in dataset g before
  pub less : left_in dataset g after < left_in dataset g before

-- what a step tells: the items that were to be read, or a reader that is one step on
abbrev pub TurnTells : List Quad → GraphRef → Reader → Turn → Type 0
TurnTells dataset g before (Whole items) = read_in dataset g before ≡ values_data items
TurnTells dataset g before (Goes after) = StepsOn dataset g before after

abbrev pub AreNearIn : List Quad → Term → Turn → Type 0
AreNearIn dataset origin (Whole items) = ⊤
AreNearIn dataset origin (Goes after) = AreNear dataset origin after
