-- The maps of a table: what a number stands for, by its row.
use Rattle.std.proofs.Common.{◌≡◌, ℕ, ◌<◌, ◌≤◌, Bool, true, false, nat_lt, List, [], ◌∷◌, length, slice_get, Option, Some, None, inl, inr, refl, sym, ◌∙◌, ap, arith}
use Rattle.std.proofs.lemmas.Bool.{le-ltb}
use Rattle.std.proofs.lemmas.Option.{none-some, slice_get_cases}
use Rattle.lf_model.specs.declared.frame.FrameNode.{FrameNode}
use Rattle.lf_model.specs.declared.frame.FrameProp.{FrameProp}
use Rattle.lf_model.specs.declared.frame.FrameKind.{FrameKind}
use Rattle.lf_model.specs.declared.frame.FrameKind.TheVariants as frame_kind
use Rattle.lf_rdf.specs.declared.question.GraphRef.{GraphRef}
use Rattle.def_nested.specs.Nested.{match_none, frame_map}
use Rattle.def_nested.specs.Unfolding.{Numbered, above, build, build_kind, build_props, build_reverses, build_within, row_flags, guarded, nested, sub_frame}
use Rattle.def_nested.proofs.Unfolded.{nested_built, nested_past}
use Rattle.def_framing.specs.Views.{Views}
use Rattle.def_framing.specs.Matching.{accepts, is_match_none, is_wild, prop_tests}
use Rattle.lf_match.specs.Rows.{kind_is_wild, prop_test, row_tests}

-- a number without a row stands for match-none
pub no_row : (rows : List FrameNode) (at : ℕ) → None ≡ slice_get rows at → nested rows at ≡ match_none
no_row rows at missing =
    elim (slice_get_cases rows at).1 [
      | inl there ↦ absurd (none-some there.0 (missing ∙ there.2))
      | inr past ↦ nested_past rows at past.0
    ]

-- a number with a row stands for what is built from it
pub with_row : (rows : List FrameNode) (at : ℕ) (row : FrameNode) → Some row ≡ slice_get rows at → nested rows at ≡ build (above at (nested rows)) row
with_row rows at row found = nested_built rows at row (sym found)

-- a number that isn't larger stands for match-none
pub not_larger : (rows : List FrameNode) (at : ℕ) (number : Option ℕ) (later : ℕ) → number ≡ Some later → later ≤ at → sub_frame (above at (nested rows)) number ≡ match_none
not_larger rows at number later is small = rw is (ap (λ larger. guarded larger (nested rows) later) (le-ltb at later small))

-- a number past the table does too
pub past_table : (rows : List FrameNode) (at : ℕ) (number : Option ℕ) (later : ℕ) → number ≡ Some later → length rows ≤ later → sub_frame (above at (nested rows)) number ≡ match_none
past_table rows at number later is past = rw is (go (nat_lt at later))
  where
    go : (larger : Bool) → guarded larger (nested rows) later ≡ match_none
    go true = nested_past rows later past
    go false = refl

-- whether a row is a wildcard, by its kind
pub wild_row : (rows : List FrameNode) (at : ℕ) (row : FrameNode) → Some row ≡ slice_get rows at → is_wild (nested rows at) ≡ kind_is_wild row.kind
wild_row rows at row found = ap is_wild (with_row rows at row found) ∙ go row.kind
  where
    go : (kind : FrameKind) → is_wild (frame_map (row_flags row) (build_props (above at (nested rows)) row.props) (build_reverses (above at (nested rows)) row.reverse) (build_within (above at (nested rows)) row.graph) (build_kind (above at (nested rows)) kind)) ≡ kind_is_wild kind
    go frame_kind.Wild = refl
    go frame_kind.Node = refl
    go (frame_kind.Value pattern) = refl
    go (frame_kind.List None) = refl
    go (frame_kind.List (Some item)) = refl

-- a row with a later number isn't match-none
pub row_is_map : (rows : List FrameNode) (at : ℕ) → at < length rows → is_match_none (nested rows at) ≡ false
row_is_map rows at inside =
    elim (slice_get_cases rows at).1 [
      | inl there ↦ ap is_match_none (with_row rows at there.0 (sym there.2))
      | inr past ↦ absurd (omega (arith, past.0))
    ]

-- the properties of a built map as tests
pub built_tests :
    (views : Views) (graph : GraphRef) (sub : Numbered) (props : List FrameProp) →
    prop_tests views graph (build_props sub props) ≡ row_tests views graph sub props
unfolding accepts
built_tests views graph sub [] = refl
built_tests views graph sub (first ∷ rest) = ap (λ tests. prop_test views graph sub first ∷ tests) (built_tests views graph sub rest)
