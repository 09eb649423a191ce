-- The walk from a node along `rdf:rest`, by the tests of list nodes (RDF Schema 1.1, section 5.2).
use Rattle.std.specs.Prelude.{◌≡◌, ◌⊎◌, List, ℕ, Bool, true, false, ◌||◌, ◌&&◌, not, Option, Some, None, IsTrue}
use Rattle.lf_rdf.specs.declared.term.Term.{Term}
use Rattle.lf_rdf.specs.declared.quad.Quad.{Quad}
use Rattle.lf_rdf.specs.declared.question.GraphRef.{GraphRef}
use Rattle.lf_rdf.specs.Vocabulary.{rdf_first, rdf_rest, rdf_nil}
use Rattle.def_datasets.specs.Terms.{is_iri}
use Rattle.def_datasets.specs.Questions.{answers_of}
use Rattle.def_datasets.specs.Cells.{rest_of, is_shaped, is_proper}
use Rattle.lf_lists.specs.Marks.{marked, AllMarked}

-- a quad that is neither the item nor the rest of a list node
unfoldable pub is_other : Quad → Bool
is_other q = not (is_iri rdf_first q.predicate) && not (is_iri rdf_rest q.predicate)

abbrev pub rest_if : Bool → Option Term → Option Term
rest_if true rest = rest
rest_if false rest = None

-- the rest of a node that has the form of a list node
abbrev pub shaped_rest : List Quad → GraphRef → Term → Option Term
shaped_rest dataset g b = rest_if (is_shaped dataset g b) (rest_of (answers_of dataset) g b)

-- a term ends a list well: it is `rdf:nil` or proper
abbrev pub ends_well : List Quad → GraphRef → Term → Bool
ends_well dataset g t = is_iri rdf_nil t || is_proper dataset g t

-- What a walk tells, where the nodes marked before are proper: whether its start ends a list well,
-- that all nodes marked after it have the form of a list node, and that they are proper where it
-- ends well.
pub record Walked (dataset : List Quad) (g : GraphRef) (before after : List (List ℕ)) (start : Term)
    (ends : Bool) : Type 0 where
  pub tells : AllMarked (is_proper dataset g) before → ends ≡ ends_well dataset g start
  pub shaped : AllMarked (is_proper dataset g) before → AllMarked (is_shaped dataset g) after
  pub proper :
      AllMarked (is_proper dataset g) before → IsTrue ends → AllMarked (is_proper dataset g) after

-- A walk under way: each node that was walked leads along its rest to another or to the next node,
-- so that all of them and the start end a list well where the next node does.
pub record UnderWay (dataset : List Quad) (g : GraphRef) (before marks walked : List (List ℕ))
    (start next : Term) : Type 0 where
  pub leads :
      (x : Term) → IsTrue (marked walked x) →
      (r : Term) × (shaped_rest dataset g x ≡ Some r) × (IsTrue (marked walked r) ⊎ (r ≡ next))
  pub ends :
      (x : Term) → IsTrue (marked walked x) → is_proper dataset g x ≡ ends_well dataset g next
  pub start_ends : ends_well dataset g start ≡ ends_well dataset g next
  pub marks_known :
      (x : Term) → IsTrue (marked marks x) → IsTrue (marked before x) ⊎ IsTrue (marked walked x)

-- The same of a node: whether it is proper.
pub record Examined (dataset : List Quad) (g : GraphRef) (before after : List (List ℕ))
    (node : Term) (found : Bool) : Type 0 where
  pub tells : AllMarked (is_proper dataset g) before → found ≡ is_proper dataset g node
  pub shaped : AllMarked (is_proper dataset g) before → AllMarked (is_shaped dataset g) after
  pub proper :
      AllMarked (is_proper dataset g) before → IsTrue found → AllMarked (is_proper dataset g) after
