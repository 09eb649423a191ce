-- What reading the text of a data file gives.
use Rattle.std.specs.Prelude.{◌≡◌, List, ℕ, length}
use Rattle.lf_rdf.specs.declared.quad.Patch.{Patch}
use Rattle.def_patch_texts.specs.PatchText.{IsPatchText}
use Rattle.def_patch_texts.specs.BadLine.{IsBadLine}
use Rattle.lf_app.specs.Answers.{Answer, bad_line, no_memory}

-- the text states the lines of the patch, which counts the bytes of the text
pub record StatesPatch (text : List ℕ) (patch : Patch) : Type 0 where
  pub states : IsPatchText text patch.lines
  pub sized : patch.bytes ≡ length text

-- a text with a bad line is refused by the first of them
abbrev pub RefusesLines : List ℕ → List ℕ → Answer → Type 0
RefusesLines file text (bad_line name line kind) = (name ≡ file) × IsBadLine text line kind
RefusesLines file text no_memory = Unit {0}
RefusesLines file text _ = ⊥
