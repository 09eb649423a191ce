-- A node of a graph, tested with what is known of the graph's cells.
use Rattle.std.specs.Prelude.{◌≡◌, List, [], ◌∷◌, ◌++◌, Bool, IsTrue}
use Rattle.std.specs.List.{filter}
use Rattle.lf_rdf.specs.declared.term.Term.{Term}
use Rattle.lf_rdf.specs.declared.quad.Quad.{Quad}
use Rattle.lf_rdf.specs.declared.question.GraphRef.{GraphRef}
use Rattle.lf_rdf.specs.Equality.{term_eq}
use Rattle.def_datasets.specs.Sorted.{has}
use Rattle.def_datasets.specs.Questions.{members}
use Rattle.def_datasets.specs.Views.{is_key}
use Rattle.lf_lists.specs.declared.known.KnownCells.{KnownCells}
use Rattle.lf_lists.specs.Known.{Knows}

-- whether a node of the graph is a key of it, and what is known then
pub record IsAmong (dataset : List Quad) (g : GraphRef) (known : KnownCells) (node : Term)
    (found : Bool) : Type 0 where
  pub knows : Knows dataset g known
  pub key : IsTrue (has term_eq (members dataset g) node) → found ≡ is_key dataset g node

-- a node of the graph stands behind others where it is a key, and what is known then
pub record IsPut (dataset : List Quad) (g : GraphRef) (known : KnownCells) (node : Term)
    (old new : List Term) : Type 0 where
  pub knows : Knows dataset g known
  pub put :
      IsTrue (has term_eq (members dataset g) node) →
      new ≡ old ++ filter (is_key dataset g) (node ∷ [])
