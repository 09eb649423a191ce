-- Which nodes of a graph are known to be cells, or not to be, from questions that were asked
-- before.
use Rattle.std.specs.Prelude.{◌≡◌, List, ℕ, Bool, not, IsTrue}
use Rattle.lf_rdf.specs.declared.term.Term.{Term}
use Rattle.lf_rdf.specs.declared.quad.Quad.{Quad}
use Rattle.lf_rdf.specs.declared.question.GraphRef.{GraphRef}
use Rattle.def_datasets.specs.Cells.{is_proper, is_cell}
use Rattle.lf_lists.specs.declared.known.KnownCells.{KnownCells}
use Rattle.lf_lists.specs.Marks.{marked, AllMarked}
use Rattle.lf_lists.specs.Walking.{ends_well}

-- the nodes that aren't in a set
abbrev pub outside : (Term → Bool) → Term → Bool
outside set x = not (set x)

-- what is known holds of a dataset
pub record Knows (dataset : List Quad) (g : GraphRef) (known : KnownCells) : Type 0 where
  pub proper : AllMarked (is_proper dataset g) known.proper.keys
  pub broken : AllMarked (outside (is_proper dataset g)) known.broken.keys
  pub cells : AllMarked (is_cell dataset g) known.cells.keys
  pub others : AllMarked (outside (is_cell dataset g)) known.others.keys

-- what was found of a node, and what is known then
pub record IsFound (dataset : List Quad) (g : GraphRef) (known : KnownCells) (node : Term)
    (found : Bool) : Type 0 where
  pub cell : found ≡ is_cell dataset g node
  pub knows : Knows dataset g known

-- whether a node is proper, and what is known then
pub record IsExamined (dataset : List Quad) (g : GraphRef) (known : KnownCells) (node : Term)
    (found : Bool) : Type 0 where
  pub proper : found ≡ is_proper dataset g node
  pub knows : Knows dataset g known

-- what a walk along `rdf:rest` tells: whether its start ends a list well, and that the nodes that
-- were walked do as it does
pub record WalkTells (dataset : List Quad) (g : GraphRef) (walked : List (List ℕ)) (start : Term)
    (ends : Bool) : Type 0 where
  pub start_ends : ends ≡ ends_well dataset g start
  pub alike : (x : Term) → IsTrue (marked walked x) → is_proper dataset g x ≡ ends

-- what going back tells: whether its start is a cell, that the nodes that were climbed are as it
-- is, and what is known then
pub record ClimbTells (dataset : List Quad) (g : GraphRef) (known : KnownCells)
    (climbed : List (List ℕ)) (start : Term) (found : Bool) : Type 0 where
  pub cell : found ≡ is_cell dataset g start
  pub alike : (x : Term) → IsTrue (marked climbed x) → is_cell dataset g x ≡ found
  pub knows : Knows dataset g known
