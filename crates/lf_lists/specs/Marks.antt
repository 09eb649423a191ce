-- Blank nodes that are marked, by their labels.
use Rattle.std.specs.Prelude.{◌≡◌, ◌⊎◌, ◌≤◌, ◌+◌, List, ℕ, length, Bool, false, IsTrue, IsFalse}
use Rattle.std.specs.List.{list_any}
use Rattle.lf_rdf.specs.declared.term.Term.{Term}
use Rattle.lf_rdf.specs.declared.term.Term.TheVariants.{Iri, Blank, Literal}
use Rattle.lf_rdf.specs.Equality.{text_eq, term_eq}
use Rattle.def_datasets.specs.Sorted as sorted

-- whether a term is a blank node whose label is in the list
abbrev pub marked : List (List ℕ) → Term → Bool
marked labels (Iri iri) = false
marked labels (Blank label) = list_any (text_eq label) labels
marked labels (Literal lexical datatype language) = false

-- each marked node is in a set
abbrev pub AllMarked : (Term → Bool) → List (List ℕ) → Type 0
AllMarked set labels = (x : Term) → IsTrue (marked labels x) → IsTrue (set x)

-- each node is marked once, so the marks are no more than the terms of a list that holds all of
-- them
abbrev pub IsFew : List (List ℕ) → Type 0
IsFew labels =
    (terms : List Term) → AllMarked (sorted.has term_eq terms) labels → length labels ≤ length terms

-- one more node is marked
pub record HasMark (before after : List (List ℕ)) (node : Term) : Type 0 where
  pub here : IsTrue (marked after node)
  pub kept : (x : Term) → IsTrue (marked before x) → IsTrue (marked after x)
  pub only : (x : Term) → IsTrue (marked after x) → IsTrue (marked before x) ⊎ (x ≡ node)
  pub longer : IsFalse (marked before node) → length after ≡ length before + 1
  pub few : IsFew after

-- marks of two sets, and no others
abbrev pub HasMarksOf : List (List ℕ) → List (List ℕ) → List (List ℕ) → Type 0
HasMarksOf one two after =
    (x : Term) → IsTrue (marked after x) → IsTrue (marked one x) ⊎ IsTrue (marked two x)
