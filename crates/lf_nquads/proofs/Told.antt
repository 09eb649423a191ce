-- Each text is told: what it states, or its first bad line and what is wrong with it.
use Rattle.std.proofs.Common.{◌≡◌, ℕ, ◌≤◌, Bool, true, false, List, length, Option, Result, Ok, Err, refl, sym, ◌∙◌, inl, inr}
use Rattle.std.specs.Prelude.{◌⊎◌}
use Rattle.std.specs.Str.{is_utf8, chars}
use Rattle.std.proofs.lemmas.Bool.{cases_lt, false≢true}
use Rattle.std.proofs.lemmas.Str.{IsUtf8-from_is_utf8, is_utf8-from_IsUtf8}
use Rattle.lf_rdf.specs.declared.quad.Signed.{Signed}
use Rattle.def_patch_texts.specs.declared.kind.LineKind.{LineKind}
use Rattle.def_patch_texts.specs.declared.kind.LineKind.TheVariants.{NotUtf8, LineTooLong}
use Rattle.def_patch_texts.specs.PatchText.{absolute_iris, line_limit, IsPatchText}
use Rattle.def_patch_texts.specs.BadLine.{IsKind, IsGood, IsBadLine}
use Rattle.def_patch_texts.proofs.EachText.{each_text}
use Rattle.lf_nquads.specs.Outcomes.{line_of}
use Rattle.lf_nquads.proofs.PatchProofs.{line_states, line_is_bad}

bad_kind : (bytes : List ℕ) → (IsGood bytes → ⊥) → (kind : LineKind) × IsKind bytes kind
bad_kind bytes never =
    elim (cases_lt line_limit (length bytes)) [
      | inl long ↦ (LineTooLong, long)
      | inr short ↦ by_utf8 short (is_utf8 bytes) refl
    ]
  where
    by_reading : length bytes ≤ line_limit → is_utf8 bytes ≡ true → (r : Result (Option Signed) LineKind) → line_of absolute_iris (chars bytes) ≡ r → (kind : LineKind) × IsKind bytes kind
    by_reading short u (Ok stated) e = absurd (never (stated, line_states bytes stated short (IsUtf8-from_is_utf8 bytes u) e))
    by_reading short u (Err kind) e = (kind, (line_is_bad bytes kind short (IsUtf8-from_is_utf8 bytes u) e).0)

    by_utf8 : length bytes ≤ line_limit → (b : Bool) → is_utf8 bytes ≡ b → (kind : LineKind) × IsKind bytes kind
    by_utf8 short true u = by_reading short u (line_of absolute_iris (chars bytes)) refl
    by_utf8 short false u = (NotUtf8, (short, λ text. false≢true (sym u ∙ is_utf8-from_IsUtf8 bytes text)))

pub each_text_is_told : (text : List ℕ) → ((signed : List Signed) × IsPatchText text signed) ⊎ ((n : ℕ) × (kind : LineKind) × IsBadLine text n kind)
each_text_is_told text =
    elim (each_text text) [
      | inl states ↦ inl states
      | inr first ↦ let k = bad_kind first.1 first.2.is_bad in inr (first.0, k.0, (first.1, first.2, k.1))
    ]
