-- What reading patch texts decides.
use Rattle.std.specs.Prelude.{◌⊎◌, ℕ, List}
use Rattle.lf_rdf.specs.declared.quad.Signed.{Signed}
use Rattle.def_patch_texts.specs.declared.kind.LineKind.{LineKind}
use Rattle.def_patch_texts.specs.PatchText.{IsPatchText}
use Rattle.def_patch_texts.specs.BadLine.{IsBadLine}

-- Each text states a list of signed quads, or has a first bad line, of one of the kinds.
abbrev pub EachTextIsTold : Type 0
EachTextIsTold =
    (text : List ℕ)
    →
    ((signed : List Signed) × IsPatchText text signed)
    ⊎ ((n : ℕ) × (kind : LineKind) × IsBadLine text n kind)
