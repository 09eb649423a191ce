-- Classes of characters, which are code points (RDF 1.1 N-Quads, section 4 and appendix A).
use Rattle.std.specs.Prelude.{ℕ, ◌+◌, ◌-◌, ◌*◌, nat_eq, nat_lt, nat_le, Bool, true, false, not, ◌&&◌, ◌||◌, if◌then◌else◌, List, [], ◌∷◌, map, Option, Some, None}
use Rattle.std.specs.List.{list_all}
use Rattle.std.specs.Char.{to_ascii_lowercase}
use Rattle.lf_base.specs.Ascii as ch

abbrev pub is_between : ℕ → ℕ → ℕ → Bool
is_between low high c = nat_le low c && nat_le c high

-- [A-Za-z]
abbrev pub is_letter : ℕ → Bool
is_letter c = is_between 65 90 c || is_between 97 122 c

-- [0-9]
abbrev pub is_digit : ℕ → Bool
is_digit c = is_between 48 57 c

-- a space or a tab
abbrev pub is_blank : ℕ → Bool
is_blank c = nat_eq c ch.space || nat_eq c ch.tab

-- ---- IRIs

-- a letter, a digit, `+`, `-` or `.`
abbrev pub is_scheme_char : ℕ → Bool
is_scheme_char c =
    is_letter c || is_digit c || nat_eq c ch.plus || nat_eq c ch.hyphen || nat_eq c ch.dot

-- characters of a scheme, and `:`
abbrev pub ends_scheme : List ℕ → Bool
ends_scheme [] = false
ends_scheme (c ∷ rest) = if nat_eq c ch.colon then true else (is_scheme_char c && ends_scheme rest)

-- an IRI that isn't relative begins with a scheme and `:` (RFC 3986, section 3.1):
-- scheme = ALPHA *( ALPHA / DIGIT / "+" / "-" / "." )
abbrev pub is_absolute : List ℕ → Bool
is_absolute [] = false
is_absolute (c ∷ rest) = is_letter c && ends_scheme rest

-- `"`, `<`, `>`, the backslash, `^`, the backquote, `{`, `|` and `}`
abbrev pub is_delimiter : ℕ → Bool
is_delimiter c =
    nat_eq c ch.quote || nat_eq c ch.less || nat_eq c ch.greater || nat_eq c ch.backslash
    || nat_eq c ch.caret
    || nat_eq c ch.grave || nat_eq c ch.opening_brace || nat_eq c ch.bar
    || nat_eq c ch.closing_brace

-- a character that an IRI may hold: above U+0020 and no delimiter
-- IRIREF ::= '<' ([^#x00-#x20<>"{}|^`\] | UCHAR)* '>'
abbrev pub is_iri_char : ℕ → Bool
is_iri_char c = nat_lt ch.space c && not (is_delimiter c)

-- ---- labels of blank nodes

-- production PN_CHARS_BASE
abbrev pub is_pn_chars_base : ℕ → Bool
is_pn_chars_base c =
    is_letter c || is_between 0xC0 0xD6 c || is_between 0xD8 0xF6 c || is_between 0xF8 0x2FF c
    || is_between 0x370 0x37D c || is_between 0x37F 0x1FFF c || is_between 0x200C 0x200D c
    || is_between 0x2070 0x218F c || is_between 0x2C00 0x2FEF c || is_between 0x3001 0xD7FF c
    || is_between 0xF900 0xFDCF c || is_between 0xFDF0 0xFFFD c || is_between 0x10000 0xEFFFF c

-- PN_CHARS_U ::= PN_CHARS_BASE | '_' | ':'
abbrev pub is_pn_chars_u : ℕ → Bool
is_pn_chars_u c = is_pn_chars_base c || nat_eq c ch.underscore || nat_eq c ch.colon

-- PN_CHARS ::= PN_CHARS_U | '-' | [0-9] | #x00B7 | [#x0300-#x036F] | [#x203F-#x2040]
abbrev pub is_pn_chars : ℕ → Bool
is_pn_chars c =
    is_pn_chars_u c || nat_eq c ch.hyphen || is_digit c || nat_eq c 0xB7 || is_between 0x300 0x36F c
    || is_between 0x203F 0x2040 c

-- PN_CHARS or a dot
abbrev pub is_label_char : ℕ → Bool
is_label_char c = is_pn_chars c || nat_eq c ch.dot

-- the last character isn't a dot
abbrev pub ends_well : ℕ → List ℕ → Bool
ends_well c [] = not (nat_eq c ch.dot)
ends_well c (next ∷ rest) = ends_well next rest

-- a label, without its `_:`
-- BLANK_NODE_LABEL ::= '_:' (PN_CHARS_U | [0-9]) ((PN_CHARS | '.')* PN_CHARS)?
abbrev pub is_label : List ℕ → Bool
is_label [] = false
is_label (c ∷ rest) =
    (is_pn_chars_u c || is_digit c) && list_all is_label_char rest && ends_well c rest

-- ---- language tags

-- Letters, also digits where they are allowed, and `-` where no character is needed before it.
-- Behind a `-` a character is needed, and digits are allowed.
abbrev pub is_tag_rest : Bool → Bool → List ℕ → Bool
is_tag_rest needed digits [] = not needed
is_tag_rest needed digits (c ∷ rest) =
    (is_letter c || (digits && is_digit c) || (not needed && nat_eq c ch.hyphen))
    && is_tag_rest (nat_eq c ch.hyphen) (digits || nat_eq c ch.hyphen) rest

-- a tag, without its `@`
-- LANGTAG ::= '@' [a-zA-Z]+ ('-' [a-zA-Z0-9]+)*
abbrev pub is_tag : List ℕ → Bool
is_tag = is_tag_rest true false

abbrev pub lower : List ℕ → List ℕ
lower = map to_ascii_lowercase

-- ---- strings and escapes

-- a character that may stand raw in a string
-- STRING_LITERAL_QUOTE ::= '"' ([^#x22#x5C#xA#xD] | ECHAR | UCHAR)* '"'
abbrev pub is_string_char : ℕ → Bool
is_string_char c = not (nat_eq c ch.quote) && not (nat_eq c ch.backslash)
    && not (nat_eq c ch.line_feed) && not (nat_eq c ch.carriage_return)

-- the character that the backslash and this one stand for
-- ECHAR ::= '\' [tbnrf"'\]
abbrev pub short_escape : ℕ → Option ℕ
short_escape c =
    if nat_eq c ch.letter_t then Some ch.tab
    else if nat_eq c ch.letter_b then Some ch.backspace
    else if nat_eq c ch.letter_n then Some ch.line_feed
    else if nat_eq c ch.letter_r then Some ch.carriage_return
    else if nat_eq c ch.letter_f then Some ch.form_feed
    else if nat_eq c ch.quote || nat_eq c ch.apostrophe || nat_eq c ch.backslash then Some c
    else None

-- HEX ::= [0-9] | [A-F] | [a-f]
abbrev pub is_hex_digit : ℕ → Bool
is_hex_digit c = is_digit c || is_between 65 70 c || is_between 97 102 c

abbrev pub hex_digit : ℕ → ℕ
hex_digit c = if is_digit c then c - 48 else if is_between 65 70 c then c - 55 else c - 87

-- the number that the digits write, behind what was read before
abbrev pub hex_number : ℕ → List ℕ → ℕ
hex_number before [] = before
hex_number before (c ∷ rest) = hex_number (before * 16 + hex_digit c) rest
