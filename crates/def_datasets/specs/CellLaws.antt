-- What holds of the cells of lists, whatever the dataset (JSON-LD 1.1 Processing Algorithms and
-- API, section 8.1).
use Rattle.std.specs.Prelude.{◌≡◌, List, [], ◌∷◌, ℕ, ◌≤◌, length, Bool, ◌&&◌, IsTrue}
use Rattle.lf_rdf.specs.declared.term.Term.{Term}
use Rattle.lf_rdf.specs.declared.quad.Quad.{Quad}
use Rattle.lf_rdf.specs.declared.question.GraphRef.{GraphRef}
use Rattle.def_datasets.specs.Terms.{lies_in, uses}
use Rattle.def_datasets.specs.Questions.{answers_of}
use Rattle.def_datasets.specs.Cells.{rest_of, user_of, ends_or, begins_or, proper_within, cell_within, is_shaped, is_proper, is_cell}

-- a proper node is one that is shaped and whose rest is `rdf:nil` or proper
abbrev pub ProperNodes : Type 0
ProperNodes =
    (dataset : List Quad) (g : GraphRef) (b : Term)
    → is_proper dataset g b
    ≡ (is_shaped dataset g b && ends_or (is_proper dataset g) (rest_of (answers_of dataset) g b))

-- the proper nodes lie in every set of which this holds in one direction: following the rests from
-- them ends
abbrev pub ProperNodesAreLeast : Type 0
ProperNodesAreLeast =
    (dataset : List Quad) (g : GraphRef) (set : Term → Bool)
    →
    ((b : Term) → IsTrue (is_shaped dataset g b) →
    IsTrue (ends_or set (rest_of (answers_of dataset) g b)) → IsTrue (set b))
    → (b : Term) → IsTrue (is_proper dataset g b) → IsTrue (set b)

-- a cell is a proper node whose user isn't proper or is a cell
abbrev pub CellNodes : Type 0
CellNodes =
    (dataset : List Quad) (g : GraphRef) (b : Term)
    → is_cell dataset g b
    ≡ (is_proper dataset g b
    && begins_or (is_proper dataset g) (is_cell dataset g) (user_of (answers_of dataset) b))

-- the cells lie in every set of which this holds in one direction: going back from them ends
abbrev pub CellsAreLeast : Type 0
CellsAreLeast =
    (dataset : List Quad) (g : GraphRef) (set : Term → Bool)
    →
    ((b : Term) → IsTrue (is_proper dataset g b) →
    IsTrue (begins_or (is_proper dataset g) set (user_of (answers_of dataset) b)) →
    IsTrue (set b))
    → (b : Term) → IsTrue (is_cell dataset g b) → IsTrue (set b)

-- after as many rounds as there are quads, no further round adds a proper node or a cell
abbrev pub RoundsSuffice : Type 0
RoundsSuffice =
    (dataset : List Quad) (g : GraphRef) (n : ℕ) (b : Term) → length dataset ≤ n
    → (proper_within (answers_of dataset) g n b ≡ is_proper dataset g b)
    × (cell_within (answers_of dataset) g n b ≡ is_cell dataset g b)

-- each cell is proper
abbrev pub CellsAreProper : Type 0
CellsAreProper = (dataset : List Quad) (g : GraphRef) (b : Term) → IsTrue (is_cell dataset g b) →
    IsTrue (is_proper dataset g b)

-- each cell is used once in all graphs, by a quad of its own
abbrev pub CellsAreUsedOnce : Type 0
CellsAreUsedOnce =
    (dataset : List Quad) (g : GraphRef) (b : Term) → IsTrue (is_cell dataset g b)
    → (q : Quad) × (uses dataset b ≡ q ∷ []) × IsTrue (lies_in g q)
