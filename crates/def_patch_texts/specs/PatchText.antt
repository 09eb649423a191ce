-- Patch texts: lines of the grammar, each stating a signed quad or skipped.
use Rattle.std.specs.Prelude.{◌≡◌, ◌≤◌, ℕ, nat_eq, Bool, true, false, ◌&&◌, ◌||◌, if◌then◌else◌, List, [], ◌∷◌, length, Option, Some, None, encode_utf8_all}
use Rattle.std.specs.Str.{all_scalars}
use Rattle.lf_base.specs.Ascii as ch
use Rattle.lf_rdf.specs.declared.quad.Signed.{Signed}
use Rattle.def_patch_texts.specs.Characters.{is_absolute}
use Rattle.def_patch_texts.specs.Terminals.{Allowed}
use Rattle.def_patch_texts.specs.Statements.{IsLineOf}

-- a byte before the first line
abbrev pub with_first : ℕ → List (List ℕ) → List (List ℕ)
with_first byte [] = (byte ∷ []) ∷ []
with_first byte (line ∷ lines) = (byte ∷ line) ∷ lines

-- CR or LF
abbrev pub is_line_end : ℕ → Bool
is_line_end byte = nat_eq byte ch.carriage_return || nat_eq byte ch.line_feed

-- A byte before these lines: LF behind CR ends no further line, CR or LF ends a line, and any other
-- byte belongs to the first.
abbrev pub cut_at : Bool → ℕ → List (List ℕ) → List (List ℕ)
cut_at after_cr byte lines =
    if after_cr && nat_eq byte ch.line_feed then lines else if is_line_end byte then ([] ∷ lines)
    else with_first byte lines

-- the lines of what stands behind CR or not
abbrev pub lines_from : Bool → List ℕ → List (List ℕ)
lines_from after_cr [] = [] ∷ []
lines_from after_cr (byte ∷ rest) =
    cut_at after_cr byte (lines_from (nat_eq byte ch.carriage_return) rest)

-- The lines of a text without their ends, which are CR LF, a lone LF or a lone CR.
abbrev pub lines_of : List ℕ → List (List ℕ)
lines_of text = lines_from false text

-- the most bytes of a line, without its end
abbrev pub line_limit : ℕ
line_limit = 1048576

-- the grammar: IRIs are absolute
abbrev pub absolute_iris : Allowed
absolute_iris = record { iri = λ iri rest. is_absolute iri; escape = λ text rest. true }

-- These bytes are the UTF-8 of these characters.
pub record IsEncoded (bytes characters : List ℕ) : Type 0 where
  pub scalars : all_scalars characters ≡ true
  pub encoded : encode_utf8_all characters ≡ bytes

-- a line: not too long, UTF-8, and by the grammar a signed quad or skipped
abbrev pub IsLine : List ℕ → Option Signed → Type 0
IsLine bytes stated =
    (length bytes ≤ line_limit) × (characters : List ℕ) × IsEncoded bytes characters
    × IsLineOf absolute_iris characters stated

-- what a line adds to those of the lines after it
abbrev pub with_stated : Option Signed → List Signed → List Signed
with_stated None others = others
with_stated (Some signed) others = signed ∷ others

-- lines that state these signed quads in order
abbrev pub AreLines : List (List ℕ) → List Signed → Type 0
AreLines [] signed = signed ≡ []
AreLines (line ∷ lines) signed =
    (stated : Option Signed) × (others : List Signed) × IsLine line stated × AreLines lines others
    × (signed ≡ with_stated stated others)

-- The text states these signed quads.
abbrev pub IsPatchText : List ℕ → List Signed → Type 0
IsPatchText text signed = AreLines (lines_of text) signed
