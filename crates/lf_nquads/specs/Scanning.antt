-- Words for the loops that scan a terminal.
use Rattle.std.specs.Prelude.{◌≡◌, ℕ, nat_eq, Bool, true, false, not, ◌&&◌, ◌||◌, List, [], ◌∷◌, Option, Some, None, if◌then◌else◌}
use Rattle.std.specs.Option.{MatchOption}
use Rattle.lf_base.specs.Ascii as ch
use Rattle.def_patch_texts.specs.Characters.{is_letter, is_digit, is_pn_chars_u, is_hex_digit, hex_digit}

-- a character of a language tag, behind `-` or at its beginning, or where digits may stand
abbrev pub is_tag_char : Bool → Bool → ℕ → Bool
is_tag_char needed digits c =
    is_letter c || (digits && is_digit c) || (not needed && nat_eq c ch.hyphen)

-- the value of a hexadecimal digit
abbrev pub hex_value : ℕ → Option ℕ
hex_value c = if is_hex_digit c then Some (hex_digit c) else None

-- whether the first of the characters passes a test
abbrev pub first_is : (ℕ → Bool) → List ℕ → Bool
first_is test [] = false
first_is test (c ∷ rest) = test c

-- what was taken from the front of these characters, so that others are left: nothing where the
-- first doesn't pass a test
abbrev pub TakesIf : (ℕ → Bool) → List ℕ → Option ℕ → List ℕ → Type 0
TakesIf test before taken after =
    MatchOption taken ((after ≡ before) × (first_is test before ≡ false))
    (λ c. (before ≡ c ∷ after) × (test c ≡ true))

-- the first character of a label, and what follows it
abbrev pub first_in_label : List ℕ → Option (ℕ × List ℕ)
first_in_label [] = None
first_in_label (c ∷ rest) = if is_pn_chars_u c || is_digit c then Some (c, rest) else None
