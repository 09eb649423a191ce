-- Which terms the questions of matching are near (JSON-LD 1.1 Framing, section 4.2.2).
use Rattle.std.specs.Prelude.{◌≡◌, ◌⊎◌, List, [], ◌∷◌, ℕ}
use Rattle.lf_rdf.specs.declared.quad.Quad.{Quad}
use Rattle.lf_rdf.specs.declared.term.Term.{Term}
use Rattle.lf_rdf.specs.declared.question.GraphRef.{GraphRef}
use Rattle.lf_rdf.specs.declared.question.Question.{Question}
use Rattle.lf_model.specs.ValueData.{ListValue, literal, reference, list, ListValues, no_values, value, values_of}
use Rattle.lf_oracle.specs.Nearby.{NamesGraph}
use Rattle.def_nested.specs.Nested.{Nested}
use Rattle.def_datasets.specs.Near.{NearQuestion}
use Rattle.def_datasets.specs.Views.{View, ViewProperty}
use Rattle.def_framing.specs.Nearness.{reversed_in}

-- a question is near one of these terms, for the properties of some `@reverse` maps
abbrev pub IsNearOneBy : List Quad → List (List ℕ) → (Term → Type 0) → Question → Type 0
IsNearOneBy dataset reversed Is question =
    (x : Term) × (Is x × NearQuestion dataset reversed x question)

-- a question is near one of these terms, for a frame
abbrev pub IsNearOneFor : List Quad → Nested → (Term → Type 0) → Question → Type 0
IsNearOneFor dataset form Is question = IsNearOneBy dataset (reversed_in form) Is question

abbrev mutual
  -- a value refers to a node
  pub Refers : ListValue → Term → Type 0
  Refers (literal term) x = ⊥
  Refers (reference term) x = x ≡ term
  Refers (list items) x = AnyRefers items x

  -- one of these values does
  pub AnyRefers : ListValues → Term → Type 0
  AnyRefers no_values x = ⊥
  AnyRefers (value first rest) x = Refers first x ⊎ AnyRefers rest x

-- a term is a node that one of these values refers to, or names the graph
abbrev pub IsOfValues : GraphRef → List ListValue → Term → Type 0
IsOfValues g values x = AnyRefers (values_of values) x ⊎ NamesGraph g x

-- a term is a node that a value refers to, or names the graph
abbrev pub IsOfValue : GraphRef → ListValue → Term → Type 0
IsOfValue g held x = Refers held x ⊎ NamesGraph g x

-- a value of one of these properties refers to a node
abbrev pub PropertiesRefer : List ViewProperty → Term → Type 0
PropertiesRefer [] x = ⊥
PropertiesRefer (first ∷ rest) x = AnyRefers (values_of first.values) x ⊎ PropertiesRefer rest x

-- a term is a node that a view refers to, or names the graph
abbrev pub IsOfView : GraphRef → View → Term → Type 0
IsOfView g view x = PropertiesRefer view.props x ⊎ NamesGraph g x
