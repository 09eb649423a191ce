-- A text states signed quads or has a first bad line, since it is decided of each line whether it is in the grammar.
use Rattle.std.proofs.Common.{◌≡◌, ℕ, ◌+◌, ◌<◌, ◌≤◌, Bool, true, false, List, [], ◌∷◌, ◌++◌, length, Option, Some, None, refl, sym, ap, ◌∙◌, arith, inl, inr}
use Rattle.std.specs.Prelude.{◌⊎◌, IsUtf8}
use Rattle.std.specs.Str.{is_utf8}
use Rattle.std.specs.List.{AllByRecursion}
use Rattle.std.proofs.lemmas.Bool.{cases_lt, false≢true}
use Rattle.std.proofs.lemmas.Option.{none-some}
use Rattle.std.proofs.lemmas.Str.{IsUtf8-from_is_utf8, is_utf8-from_IsUtf8}
use Rattle.lf_rdf.specs.declared.quad.Signed.{Signed}
use Rattle.def_patch_texts.specs.PatchText.{absolute_iris, lines_of, line_limit, IsEncoded, with_stated, AreLines, IsPatchText}
use Rattle.def_patch_texts.specs.BadLine.{IsGood, IsFirstBad}
use Rattle.def_patch_texts.specs.Reading.{line_at}
use Rattle.def_patch_texts.proofs.BadLines.{same_characters}
use Rattle.def_patch_texts.proofs.Lines.{line_again}
use Rattle.def_patch_texts.proofs.TakesLine.{line_takes}

-- ---- one line

read_or_not : (bytes cs : List ℕ) → length bytes ≤ line_limit → IsEncoded bytes cs → (read : Option (Option Signed)) → line_at absolute_iris cs ≡ read → IsGood bytes ⊎ (IsGood bytes → ⊥)
read_or_not bytes cs short encoded (Some stated) e = inl (stated, (short, cs, encoded, line_takes absolute_iris cs stated e))
read_or_not bytes cs short encoded None e = inr (λ g.
    let same : g.1.1 ≡ cs = same_characters bytes g.1.1 cs g.1.2 encoded in
    none-some g.0 (sym e ∙ sym (ap (line_at absolute_iris) same) ∙ line_again absolute_iris g.1.1 g.0 g.1.3))

utf8_or_not : (bytes : List ℕ) → length bytes ≤ line_limit → (b : Bool) → is_utf8 bytes ≡ b → IsGood bytes ⊎ (IsGood bytes → ⊥)
utf8_or_not bytes short true e =
    let u = IsUtf8-from_is_utf8 bytes e in
    read_or_not bytes u.0 short (record { scalars = u.1.0; encoded = u.1.1 }) (line_at absolute_iris u.0) refl
utf8_or_not bytes short false e = inr (λ g.
    let u : IsUtf8 bytes = (g.1.1, (g.1.2.scalars, g.1.2.encoded)) in
    false≢true (sym e ∙ is_utf8-from_IsUtf8 bytes u))

too_long : (bytes : List ℕ) → line_limit < length bytes → IsGood bytes → ⊥
too_long bytes long g = let short : length bytes ≤ line_limit = g.1.0 in omega arith

pub good_or_not : (bytes : List ℕ) → IsGood bytes ⊎ (IsGood bytes → ⊥)
good_or_not bytes =
    elim (cases_lt line_limit (length bytes)) [
      | inl long ↦ inr (too_long bytes long)
      | inr short ↦ utf8_or_not bytes short (is_utf8 bytes) refl
    ]

-- ---- all lines

pub record FirstBad (lines : List (List ℕ)) : Type 0 where
  pub before : List (List ℕ)
  pub bad : List ℕ
  pub after : List (List ℕ)
  pub cut : lines ≡ before ++ bad ∷ after
  pub good_before : AllByRecursion IsGood before
  pub is_bad : IsGood bad → ⊥

abbrev Stated : List (List ℕ) → Type 0
Stated lines = (signed : List Signed) × AreLines lines signed

with_good : (line : List ℕ) (lines : List (List ℕ)) → IsGood line → Stated lines ⊎ FirstBad lines → Stated (line ∷ lines) ⊎ FirstBad (line ∷ lines)
with_good line lines g rest =
    elim rest [
      | inl others ↦ inl (with_stated g.0 others.0, (g.0, others.0, g.1, others.1, refl))
      | inr b ↦
          inr (record { before = line ∷ b.before; bad = b.bad; after = b.after; cut = ap (λ (ls : List (List ℕ)). line ∷ ls) b.cut; good_before = (g, b.good_before); is_bad = b.is_bad })
    ]

with_line : (line : List ℕ) (lines : List (List ℕ)) → IsGood line ⊎ (IsGood line → ⊥) → Stated lines ⊎ FirstBad lines → Stated (line ∷ lines) ⊎ FirstBad (line ∷ lines)
with_line line lines decided rest =
    elim decided [
      | inl g ↦ with_good line lines g rest
      | inr b ↦ inr (record { before = []; bad = line; after = lines; cut = refl; good_before = tt; is_bad = b })
    ]

each_line : (lines : List (List ℕ)) → Stated lines ⊎ FirstBad lines
each_line [] = inl ([], refl)
each_line (line ∷ lines) = with_line line lines (good_or_not line) (each_line lines)

pub each_text : (text : List ℕ) → ((signed : List Signed) × IsPatchText text signed) ⊎ ((n : ℕ) × (bad : List ℕ) × IsFirstBad text n bad)
each_text text =
    elim (each_line (lines_of text)) [
      | inl stated ↦ inl stated
      | inr b ↦
          inr (length b.before + 1, b.bad, record { before = b.before; after = b.after; cut = b.cut; counted = refl; good_before = b.good_before; is_bad = b.is_bad })
    ]
