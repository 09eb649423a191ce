-- What framing sees of a dataset: the views of the nodes of its graphs
-- (JSON-LD 1.1 Framing, section 4: framing works on a map of the nodes of a graph).
use Rattle.std.specs.Prelude.{List, [], ◌∷◌, ℕ, Bool, true, false, cond, ◌&&◌, Option}
use Rattle.lf_rdf.specs.declared.quad.Quad.{Quad}
use Rattle.def_datasets.specs.Questions.{Answers, answers_of}
use Rattle.def_datasets.specs.Cells.{enough}
use Rattle.def_datasets.specs.Views.{View, ViewProperty, view_by, keys_by, pointing_by}
use Rattle.lf_rdf.specs.declared.term.Term.{Term}
use Rattle.lf_rdf.specs.declared.question.GraphRef.{GraphRef}
use Rattle.lf_rdf.specs.declared.question.GraphRef.TheVariants.{Default, Named, Merged}
use Rattle.lf_rdf.specs.Equality.{text_eq, term_eq}
use Rattle.lf_model.specs.ValueData.{ListValue}

-- the nodes of each graph: the view of a key, the keys, the keys whose view has a reference under a
-- property, and whether a node names a graph
pub record Views : Type 0 where
  pub view : GraphRef → Term → Option View
  pub keys : GraphRef → List Term
  pub pointing : GraphRef → List ℕ → Term → List Term
  pub names_graph : Term → Bool

-- the views of a dataset, by its answers and by as many steps as it has quads
abbrev pub of_answers : Answers → ℕ → Views
of_answers answers n =
    record {
      view = view_by answers n;
      keys = keys_by answers n;
      pointing = pointing_by answers n;
      names_graph = answers.named;
    }

abbrev pub of_dataset : List Quad → Views
of_dataset dataset = of_answers (answers_of dataset) (enough dataset)

-- the values under a property in a list of properties
abbrev pub values_at : List ℕ → List ViewProperty → List ListValue
values_at property [] = []
values_at property (entry ∷ rest) =
    cond (text_eq entry.property property) entry.values (values_at property rest)

-- the values of a node under a property
abbrev pub values_under : View → List ℕ → List ListValue
values_under view property = values_at property view.props

-- two graphs are one
abbrev pub graph_eq : GraphRef → GraphRef → Bool
graph_eq Default Default = true
graph_eq (Named one) (Named two) = term_eq one two
graph_eq Merged Merged = true
graph_eq _ _ = false

-- a node in a graph
pub record Place : Type 0 where
  pub graph : GraphRef
  pub id : Term

-- two places are one
abbrev pub place_eq : Place → Place → Bool
place_eq one two = graph_eq one.graph two.graph && term_eq one.id two.id
