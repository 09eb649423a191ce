-- What definitions ask of texts, which are their UTF-8 bytes (RFC 3986, sections 2.2 and 3.1).
use Rattle.std.specs.Prelude.{List, [], ◌∷◌, ℕ, ◌+◌, nat_eq, nat_le, Bool, true, false, ◌&&◌, ◌||◌, if◌then◌else◌, drop, map}
use Rattle.std.specs.List.{list_any, starts_with}
use Rattle.lf_base.specs.Ascii as ch

abbrev pub is_empty : List ℕ → Bool
is_empty [] = true
is_empty (b ∷ rest) = false

-- a capital ASCII letter
abbrev pub is_capital : ℕ → Bool
is_capital b = nat_le 65 b && nat_le b 90

-- an ASCII letter
abbrev pub is_letter : ℕ → Bool
is_letter b = is_capital b || (nat_le 97 b && nat_le b 122)

-- an ASCII digit
abbrev pub is_digit : ℕ → Bool
is_digit b = nat_le 48 b && nat_le b 57

-- what may follow the first letter of a scheme: a letter, a digit, `+`, `.` or `-`
abbrev pub is_scheme_byte : ℕ → Bool
is_scheme_byte b =
    is_letter b || is_digit b || nat_eq b ch.plus || nat_eq b ch.dot || nat_eq b ch.hyphen

-- the rest of a scheme and its `:`
abbrev pub ends_scheme : List ℕ → Bool
ends_scheme [] = false
ends_scheme (b ∷ rest) = nat_eq b ch.colon || (is_scheme_byte b && ends_scheme rest)

-- a text is absolute where it begins with a scheme and `:`
unfoldable pub is_absolute : List ℕ → Bool
is_absolute [] = false
is_absolute (b ∷ rest) = is_letter b && ends_scheme rest

-- a byte of a text
abbrev pub has_byte : ℕ → List ℕ → Bool
has_byte b text = list_any (nat_eq b) text

-- a `:` after the first character
abbrev pub has_later_colon : List ℕ → Bool
has_later_colon text = has_byte ch.colon (drop 1 text)

-- the text without its last byte
abbrev pub without_last : List ℕ → List ℕ
without_last [] = []
without_last (b ∷ []) = []
without_last (b ∷ c ∷ rest) = b ∷ without_last (c ∷ rest)

-- a `:` other than as the first or the last character
abbrev pub has_inner_colon : List ℕ → Bool
has_inner_colon text = has_later_colon (without_last text)

-- what stands before the first `:`, and after it
abbrev pub before_colon : List ℕ → List ℕ
before_colon [] = []
before_colon (b ∷ rest) = if nat_eq b ch.colon then [] else b ∷ before_colon rest

abbrev pub after_colon : List ℕ → List ℕ
after_colon [] = []
after_colon (b ∷ rest) = if nat_eq b ch.colon then rest else after_colon rest

-- the delimiters of the generic syntax: `: / ? # [ ] @`
abbrev pub is_gen_delim : ℕ → Bool
is_gen_delim b =
    nat_eq b ch.colon || nat_eq b ch.slash || nat_eq b ch.question_mark || nat_eq b ch.hash
    || nat_eq b ch.opening_bracket || nat_eq b ch.closing_bracket || nat_eq b ch.at_sign

abbrev pub ends_in_gen_delim : List ℕ → Bool
ends_in_gen_delim [] = false
ends_in_gen_delim (b ∷ []) = is_gen_delim b
ends_in_gen_delim (b ∷ c ∷ rest) = ends_in_gen_delim (c ∷ rest)

-- `//` at the front
abbrev pub begins_authority : List ℕ → Bool
begins_authority text = starts_with nat_eq text (ch.slash ∷ ch.slash ∷ [])

-- ASCII capitals made small
abbrev pub lower_byte : ℕ → ℕ
lower_byte b = if is_capital b then b + 32 else b

abbrev pub lower : List ℕ → List ℕ
lower text = map lower_byte text
