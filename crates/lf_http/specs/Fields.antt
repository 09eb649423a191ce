-- The header lines of a head (RFC 9110, section 5), as pairs of a name and a value without the
-- blanks around it.
use Rattle.std.specs.Prelude.{List, [], ◌∷◌, ℕ, nat_eq, nat_le, Bool, ◌&&◌, Option, Some, None, map, length, if◌then◌else◌, max}
use Rattle.std.specs.List.{list_all, list_any, slice_split}
use Rattle.std.specs.Char.{to_ascii_lowercase, is_ascii_digit}
use Rattle.std.specs.Str.Parse.{digits_value}
use Rattle.std.specs.Cmp.Lexicographic.{pointwise}
use Rattle.lf_base.specs.Ascii as ch
use Rattle.httparse.specs.Grammar.{trim_ows}

-- a text in ASCII lower case
abbrev pub lower : List ℕ → List ℕ
lower = map to_ascii_lowercase

-- two texts are one, compared without case
abbrev pub same_name : List ℕ → List ℕ → Bool
same_name written name = pointwise nat_eq (lower written) (lower name)

-- the values of the lines of this name, in order
abbrev pub values : List ℕ → List (List ℕ × List ℕ) → List (List ℕ)
values name [] = []
values name (line ∷ lines) =
    if same_name line.0 name then line.1 ∷ values name lines else values name lines

-- the most digits of a number, so that it is below 2^63
abbrev pub most_digits : ℕ
most_digits = 18

-- 1 to 18 decimal digits
abbrev pub is_number : List ℕ → Bool
is_number value =
    nat_le 1 (length value) && nat_le (length value) most_digits && list_all is_ascii_digit value

-- the number of a value of 1 to 18 decimal digits
abbrev pub number : List ℕ → Option ℕ
number value = if is_number value then Some (digits_value 10 value) else None

-- the greater of two numbers, where there are any
abbrev pub greater : Option ℕ → Option ℕ → Option ℕ
greater None other = other
greater (Some n) None = Some n
greater (Some n) (Some m) = Some (max n m)

-- the greatest number among the values that are numbers
abbrev pub greatest : List (List ℕ) → Option ℕ
greatest [] = None
greatest (value ∷ more) = greater (number value) (greatest more)

-- a comma-separated list has the word, compared without case and without the blanks around it (RFC
-- 9110, section 5.6.1)
abbrev pub has_word : List ℕ → List ℕ → Bool
has_word word value =
    list_any (λ part. same_name (trim_ows part) word) (slice_split (λ b. nat_eq b ch.comma) value)
