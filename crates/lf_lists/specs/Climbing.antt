-- Going back from a list node to the nodes that use it (JSON-LD 1.1 Processing Algorithms and API,
-- section 8.1).
use Rattle.std.specs.Prelude.{◌≡◌, ◌⊎◌, List, ℕ, Bool, Some, IsTrue}
use Rattle.lf_rdf.specs.declared.term.Term.{Term}
use Rattle.lf_rdf.specs.declared.quad.Quad.{Quad}
use Rattle.lf_rdf.specs.declared.question.GraphRef.{GraphRef}
use Rattle.def_datasets.specs.Questions.{answers_of}
use Rattle.def_datasets.specs.Cells.{user_of, is_proper, is_cell}
use Rattle.lf_lists.specs.Marks.{marked, AllMarked}

-- What going back tells, where the start and the nodes marked before are proper: whether the start
-- is a cell.
abbrev pub Climbs : List Quad → GraphRef → List (List ℕ) → Term → Bool → Type 0
Climbs dataset g known start found =
    IsTrue (is_proper dataset g start) → AllMarked (is_proper dataset g) known →
    found ≡ is_cell dataset g start

-- Going back, under way: the next node and all that are known are proper, the start is a cell where
-- the next node is, and each node that was climbed is used by another of them or by the next node.
pub record GoesBack (dataset : List Quad) (g : GraphRef) (known climbed : List (List ℕ))
    (start next : Term) : Type 0 where
  pub next_proper : IsTrue (is_proper dataset g next)
  pub known_proper : AllMarked (is_proper dataset g) known
  pub climbed_proper : AllMarked (is_proper dataset g) climbed
  pub used :
      (x : Term) → IsTrue (marked climbed x) →
      (u : Term) × (user_of (answers_of dataset) x ≡ Some u)
      × (IsTrue (marked climbed u) ⊎ (u ≡ next))
  pub same : is_cell dataset g start ≡ is_cell dataset g next

-- the same, where the start and the nodes known before are proper
abbrev pub GoesBackFrom :
    List Quad → GraphRef → List (List ℕ) → List (List ℕ) → List (List ℕ) → Term → Term → Type 0
GoesBackFrom dataset g before known climbed start next =
    IsTrue (is_proper dataset g start) → AllMarked (is_proper dataset g) before →
    GoesBack dataset g known climbed start next
