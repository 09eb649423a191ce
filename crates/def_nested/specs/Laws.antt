-- What holds of the nested frames of a table.
use Rattle.std.specs.Prelude.{List, ℕ, ◌≡◌, ◌≤◌, length, slice_get, Some}
use Rattle.lf_model.specs.declared.frame.FrameNode.{FrameNode}
use Rattle.def_nested.specs.Nested.{match_none}
use Rattle.def_nested.specs.Unfolding.{build, above, nested}

-- a number of the table stands for what is built from its map, by what larger numbers stand for
abbrev pub IsBuiltFromItsRow : Type 0
IsBuiltFromItsRow =
    (rows : List FrameNode) (number : ℕ) (row : FrameNode) → slice_get rows number ≡ Some row →
    nested rows number ≡ build (above number (nested rows)) row

-- a number past the table stands for match-none
abbrev pub IsMatchNonePastTheTable : Type 0
IsMatchNonePastTheTable =
    (rows : List FrameNode) (number : ℕ) → length rows ≤ number → nested rows number ≡ match_none
