-- Labels read character by character.
use Rattle.std.proofs.Common.{◌≡◌, ℕ, nat_eq, Bool, true, false, not, ◌&&◌, List, [], ◌∷◌, ◌++◌, IsUtf8, encode_utf8, refl, sym, ap, ◌∙◌, length, arith}
use Rattle.std.specs.List.{list_all}
use Rattle.std.specs.Str.{chars}
use Rattle.std.proofs.lemmas.Str.{chars_past_char}
use Rattle.def_patch_texts.specs.Characters.{is_label_char, ends_well, is_label}
use Rattle.lf_expand.specs.LabelTest.{is_fit}

-- the characters that are left are those of a label, whose last character may end it
abbrev pub label_from : Bool → Bool → List ℕ → Bool
label_from begun ends [] = ends
label_from begun ends (c ∷ rest) = is_fit begun c && label_from true (not (nat_eq c 46)) rest

and_assoc : (a b c : Bool) → (a && (b && c)) ≡ ((a && b) && c)
and_assoc true b c = refl
and_assoc false b c = refl

later : (c : ℕ) (rest : List ℕ) → label_from true (not (nat_eq c 46)) rest ≡ (list_all is_label_char rest && ends_well c rest)
later c [] = refl
later c (d ∷ rest) =
    ap (λ b. is_label_char d && b) (later d rest) ∙ and_assoc (is_label_char d) (list_all is_label_char rest) (ends_well d rest)

pub whole_label : (cs : List ℕ) → label_from false false cs ≡ is_label cs
whole_label [] = refl
whole_label (c ∷ rest) =
    ap (λ b. is_fit false c && b) (later c rest)
    ∙ and_assoc (is_fit false c) (list_all is_label_char rest) (ends_well c rest)

-- one character more
pub label_more : (begun ends : Bool) (old rest : List ℕ) (c : ℕ) (whole : Bool) → IsUtf8 old → old ≡ encode_utf8 c ++ rest
    → label_from begun ends (chars old) ≡ whole → (is_fit begun c && label_from true (not (nat_eq c 46)) (chars rest)) ≡ whole
label_more begun ends old rest c whole utf8 front before =
    ap (label_from begun ends) (sym (chars_past_char old rest c utf8 front)) ∙ before

-- no character is left
pub label_end : (begun ends whole : Bool) (rest : List ℕ) → length rest ≡ 0 → label_from begun ends (chars rest) ≡ whole → ends ≡ whole
unfolding chars
label_end begun ends whole [] e before = before
label_end begun ends whole (x ∷ xs) e before = absurd (omega arith)
