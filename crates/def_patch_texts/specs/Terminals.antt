-- The terminals of a line (RDF 1.1 N-Quads, section 4), as relations of the characters from a place
-- on to what stands there and the characters behind it.
use Rattle.std.specs.Prelude.{◌≡◌, ◌⊎◌, ◌≤◌, ℕ, Bool, IsTrue, List, [], ◌∷◌, ◌++◌, length, Some, encode_utf8_all}
use Rattle.std.specs.Char.{IsScalar}
use Rattle.std.specs.List.{list_all}
use Rattle.lf_base.specs.Ascii as ch
use Rattle.def_patch_texts.specs.Characters.{is_blank, is_iri_char, is_label, is_tag, lower, is_string_char, short_escape, is_hex_digit, hex_number}

-- What a grammar allows besides: which IRIs, given what stands behind their `>`, and which escapes,
-- given the characters from their backslash on and those behind them.
pub record Allowed : Type 0 where
  pub iri : List ℕ → List ℕ → Bool
  pub escape : List ℕ → List ℕ → Bool

-- any number of spaces and tabs
abbrev pub IsSpace : List ℕ → List ℕ → Type 0
IsSpace text rest = (space : List ℕ) × IsTrue (list_all is_blank space) × (text ≡ space ++ rest)

-- the backslash, a letter and as many hexadecimal digits, which name a character
-- UCHAR ::= '\u' HEX HEX HEX HEX | '\U' HEX HEX HEX HEX HEX HEX HEX HEX
pub record IsNumbered (text : List ℕ) (letter count c : ℕ) (rest : List ℕ) : Type 0 where
  pub digits : List ℕ
  pub many : length digits ≡ count
  pub hexadecimal : IsTrue (list_all is_hex_digit digits)
  pub names : hex_number 0 digits ≡ c
  pub scalar : IsScalar c
  pub spelled : text ≡ ch.backslash ∷ letter ∷ digits ++ rest

-- `\u` with 4 digits or `\U` with 8
abbrev pub IsUnicodeEscape : List ℕ → ℕ → List ℕ → Type 0
IsUnicodeEscape text c rest =
    IsNumbered text ch.letter_u 4 c rest ⊎ IsNumbered text ch.capital_u 8 c rest

-- one character of an IRI, raw or as an escape; an escape names no character that can't stand raw
abbrev pub IsIriPart : Allowed → List ℕ → ℕ → List ℕ → Type 0
IsIriPart allowed text c rest =
    IsTrue (is_iri_char c)
    × ((text ≡ c ∷ rest) ⊎ (IsUnicodeEscape text c rest × IsTrue (allowed.escape text rest)))

abbrev pub IsIriParts : Allowed → List ℕ → List ℕ → List ℕ → Type 0
IsIriParts allowed text [] rest = text ≡ rest
IsIriParts allowed text (c ∷ cs) rest =
    (next : List ℕ) × IsIriPart allowed text c next × IsIriParts allowed next cs rest

-- an IRI in angle brackets, as its UTF-8 text
pub record IsIri (allowed : Allowed) (text iri rest : List ℕ) : Type 0 where
  pub characters : List ℕ
  pub inside : List ℕ
  pub opened : text ≡ ch.less ∷ inside
  pub parts : IsIriParts allowed inside characters (ch.greater ∷ rest)
  pub is_allowed : IsTrue (allowed.iri characters rest)
  pub encoded : iri ≡ encode_utf8_all characters

-- `_:` and the longest label
pub record IsBlank (text label rest : List ℕ) : Type 0 where
  pub characters : List ℕ
  pub fits : IsTrue (is_label characters)
  pub longest :
      (longer more : List ℕ) → characters ++ rest ≡ longer ++ more → IsTrue (is_label longer) →
      length longer ≤ length characters
  pub spelled : text ≡ ch.underscore ∷ ch.colon ∷ characters ++ rest
  pub encoded : label ≡ encode_utf8_all characters

-- one character of a string, raw or as an escape
abbrev pub IsStringPart : Allowed → List ℕ → ℕ → List ℕ → Type 0
IsStringPart allowed text c rest =
    (IsTrue (is_string_char c) × (text ≡ c ∷ rest))
    ⊎ ((letter : ℕ) × (short_escape letter ≡ Some c) × (text ≡ ch.backslash ∷ letter ∷ rest)
    × IsTrue (allowed.escape text rest))
    ⊎ (IsUnicodeEscape text c rest × IsTrue (allowed.escape text rest))

abbrev pub IsStringParts : Allowed → List ℕ → List ℕ → List ℕ → Type 0
IsStringParts allowed text [] rest = text ≡ rest
IsStringParts allowed text (c ∷ cs) rest =
    (next : List ℕ) × IsStringPart allowed text c next × IsStringParts allowed next cs rest

-- a string in quotes, as its UTF-8 text
pub record IsString (allowed : Allowed) (text value rest : List ℕ) : Type 0 where
  pub characters : List ℕ
  pub inside : List ℕ
  pub opened : text ≡ ch.quote ∷ inside
  pub parts : IsStringParts allowed inside characters (ch.quote ∷ rest)
  pub encoded : value ≡ encode_utf8_all characters

-- `@` and the longest tag, in lower case
pub record IsTag (text language rest : List ℕ) : Type 0 where
  pub tag : List ℕ
  pub fits : IsTrue (is_tag tag)
  pub longest :
      (longer more : List ℕ) → tag ++ rest ≡ longer ++ more → IsTrue (is_tag longer) →
      length longer ≤ length tag
  pub spelled : text ≡ ch.at_sign ∷ tag ++ rest
  pub lowered : language ≡ lower tag
