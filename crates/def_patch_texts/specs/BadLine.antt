-- The first bad line of a text that isn't a patch text, and what is wrong with it.
use Rattle.std.specs.Prelude.{◌≡◌, ◌+◌, ◌<◌, ◌≤◌, ℕ, nat_lt, nat_le, true, ◌||◌, List, ◌∷◌, ◌++◌, length, take, Option, IsUtf8}
use Rattle.std.specs.List.{AllByRecursion}
use Rattle.lf_rdf.specs.declared.quad.Signed.{Signed}
use Rattle.def_patch_texts.specs.declared.kind.LineKind.{LineKind}
use Rattle.def_patch_texts.specs.declared.kind.LineKind.TheVariants.{Syntax, RelativeIri, BadEscape, NotUtf8, LineTooLong}
use Rattle.def_patch_texts.specs.Characters.{is_absolute}
use Rattle.def_patch_texts.specs.Terminals.{Allowed}
use Rattle.def_patch_texts.specs.Statements.{IsLineOf}
use Rattle.def_patch_texts.specs.PatchText.{lines_of, line_limit, IsEncoded, IsLine}

-- the grammar in which relative IRIs are allowed
abbrev pub any_iris : Allowed
any_iris = record { iri = λ iri rest. true; escape = λ text rest. true }

-- Of a line that goes on with as many characters: an IRI that ends before them is absolute.
abbrev pub absolute_before : ℕ → Allowed
absolute_before more = record
    { iri = λ iri rest. is_absolute iri || nat_lt (length rest) more; escape = λ text rest. true }

-- Of a line that goes on with as many characters: an escape that begins before them ends before
-- them.
abbrev pub whole_before : ℕ → Allowed
whole_before more = record {
  iri = λ iri rest. true;
  escape = λ text rest. nat_le (length text) more || nat_le more (length rest);
}

-- These characters begin a line of the grammar that allows so much of a line that goes on with a
-- number of characters.
abbrev pub Begins : (ℕ → Allowed) → List ℕ → Type 0
Begins allowed front = (more : List ℕ) × (stated : Option Signed)
    × IsLineOf (allowed (length more)) (front ++ more) stated

-- The longest front of the characters that begins a line in which relative IRIs are allowed is as
-- long.
pub record IsLongestFront (characters : List ℕ) (len : ℕ) : Type 0 where
  pub within : len ≤ length characters
  pub begins : Begins (λ more. any_iris) (take len characters)
  pub longest :
      (longer : ℕ) → longer ≤ length characters →
      Begins (λ more. any_iris) (take longer characters) → longer ≤ len

-- An IRI that ends in the front is relative: it begins no line whose IRIs that end in it are
-- absolute.
abbrev pub HasRelativeIri : List ℕ → Type 0
HasRelativeIri front = ¬ (Begins absolute_before front)

-- The front ends inside an escape: it begins no line whose escapes that begin in it end in it.
abbrev pub EndsInEscape : List ℕ → Type 0
EndsInEscape front = ¬ (Begins whole_before front)

-- what is wrong behind the longest front
abbrev pub IsFault : List ℕ → LineKind → Type 0
IsFault front RelativeIri = HasRelativeIri front
IsFault front BadEscape = ¬ (HasRelativeIri front) × EndsInEscape front
IsFault front Syntax = ¬ (HasRelativeIri front) × ¬ (EndsInEscape front)
IsFault front NotUtf8 = ⊥
IsFault front LineTooLong = ⊥

-- what is wrong with characters that are no line
abbrev pub HasFault : List ℕ → LineKind → Type 0
HasFault bytes kind =
    (characters : List ℕ) × IsEncoded bytes characters
    × ((len : ℕ) × IsLongestFront characters len × IsFault (take len characters) kind)

-- What is wrong with a line that isn't in the grammar: its length is tried first, then whether it
-- is UTF-8.
abbrev pub IsKind : List ℕ → LineKind → Type 0
IsKind bytes LineTooLong = line_limit < length bytes
IsKind bytes NotUtf8 = (length bytes ≤ line_limit) × ¬ (IsUtf8 bytes)
IsKind bytes Syntax = (length bytes ≤ line_limit) × HasFault bytes Syntax
IsKind bytes RelativeIri = (length bytes ≤ line_limit) × HasFault bytes RelativeIri
IsKind bytes BadEscape = (length bytes ≤ line_limit) × HasFault bytes BadEscape

-- a line is in the grammar
abbrev pub IsGood : List ℕ → Type 0
IsGood bytes = (stated : Option Signed) × IsLine bytes stated

-- Line number n, from 1, is the first that isn't in the grammar, and these are its bytes.
pub record IsFirstBad (text : List ℕ) (n : ℕ) (bad : List ℕ) : Type 0 where
  pub before : List (List ℕ)
  pub after : List (List ℕ)
  pub cut : lines_of text ≡ before ++ bad ∷ after
  pub counted : n ≡ length before + 1
  pub good_before : AllByRecursion IsGood before
  pub is_bad : ¬ (IsGood bad)

-- Line number n is the first bad one, and this is its kind.
abbrev pub IsBadLine : List ℕ → ℕ → LineKind → Type 0
IsBadLine text n kind = (bad : List ℕ) × IsFirstBad text n bad × IsKind bad kind
