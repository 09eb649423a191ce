-- JSON texts in compact form (RFC 8259, sections 2 to 5 and 7): no space between tokens, and the
-- least escapes.
use Rattle.std.specs.Prelude.{◌≡◌, List, [], ◌∷◌, ◌++◌, ℕ, ◌/◌, ◌%◌, nat_eq, nat_lt, flat_map, if◌then◌else◌}
use Rattle.std.specs.List.{join_with_byte}
use Rattle.std.specs.Char.{digit_char}
use Rattle.lf_base.specs.Ascii as ch

-- What stands in a string for one byte of its UTF-8 text. The quote and the backslash have a
-- backslash before them, and backspace, tab, LF, form feed and CR their letter after one. Any other
-- byte below 0x20 is `\u00` and two lower-case digits. Every other byte is itself.
abbrev pub json_byte : ℕ → List ℕ
json_byte b =
    if nat_eq b ch.quote then ch.backslash ∷ ch.quote ∷ []
    else if nat_eq b ch.backslash then ch.backslash ∷ ch.backslash ∷ []
    else if nat_eq b ch.backspace then ch.backslash ∷ ch.letter_b ∷ []
    else if nat_eq b ch.tab then ch.backslash ∷ ch.letter_t ∷ []
    else if nat_eq b ch.line_feed then ch.backslash ∷ ch.letter_n ∷ []
    else if nat_eq b ch.form_feed then ch.backslash ∷ ch.letter_f ∷ []
    else if nat_eq b ch.carriage_return then ch.backslash ∷ ch.letter_r ∷ []
    else if nat_lt b ch.space then ch.backslash ∷ ch.letter_u ∷ ch.zero_digit ∷ ch.zero_digit ∷
    digit_char (b / 16) ∷ digit_char (b % 16) ∷ []
    else b ∷ []

-- the JSON string of a text
abbrev pub json_string : List ℕ → List ℕ
json_string text = ch.quote ∷ flat_map json_byte text ++ ch.quote ∷ []

-- a member of an object: its name, a colon and the JSON text of its value
abbrev pub json_member : List ℕ → List ℕ → List ℕ
json_member name value = json_string name ++ ch.colon ∷ value

-- the array of these JSON texts
abbrev pub json_array : List (List ℕ) → List ℕ
json_array items = ch.opening_bracket ∷ join_with_byte ch.comma items ++ ch.closing_bracket ∷ []

-- the object of these members
abbrev pub json_object : List (List ℕ) → List ℕ
json_object members = ch.opening_brace ∷ join_with_byte ch.comma members ++ ch.closing_brace ∷ []

-- a JSON string tells its text
abbrev pub JsonStringTellsText : Type 0
JsonStringTellsText = (one two : List ℕ) → json_string one ≡ json_string two → one ≡ two
