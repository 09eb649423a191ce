-- What the definitions of patch texts are meant to say.
use Rattle.std.specs.Prelude.{◌≡◌, ◌<◌, ◌≤◌, ◌↔◌, ◌⊎◌, ℕ, true, List, [], ◌∷◌, length, Option, Some}
use Rattle.std.specs.List.{AllByRecursion}
use Rattle.lf_rdf.specs.declared.quad.Quad.{Quad}
use Rattle.lf_rdf.specs.declared.quad.Signed.{Signed}
use Rattle.lf_rdf.specs.Canonical.{line}
use Rattle.def_patch_texts.specs.declared.kind.LineKind.{LineKind}
use Rattle.def_patch_texts.specs.declared.kind.LineKind.TheVariants.{Syntax, RelativeIri, BadEscape, NotUtf8, LineTooLong}
use Rattle.def_patch_texts.specs.Terminals.{Allowed}
use Rattle.def_patch_texts.specs.Statements.{IsLineOf}
use Rattle.def_patch_texts.specs.Reading.{line_at}
use Rattle.def_patch_texts.specs.PatchText.{lines_of, line_limit, IsPatchText}
use Rattle.def_patch_texts.specs.BadLine.{IsFirstBad, IsBadLine}
use Rattle.def_patch_texts.specs.Given.{IsGiven}
use Rattle.def_patch_texts.specs.WorkedCases.{third_line_relative, escaped_space, escaped_surrogate, relative_before_escape, literal_predicate, no_utf8}

-- A text states at most one list of signed quads.
abbrev pub OneList : Type 0
OneList = (text : List ℕ) (signed others : List Signed) → IsPatchText text signed →
    IsPatchText text others → signed ≡ others

-- A patch text has no bad line.
abbrev pub NeverBoth : Type 0
NeverBoth = (text : List ℕ) (signed : List Signed) (n : ℕ) (kind : LineKind) →
    IsPatchText text signed → ¬ (IsBadLine text n kind)

-- A text states signed quads or has a first bad line.
abbrev pub EachText : Type 0
EachText =
    (text : List ℕ)
    →
    ((signed : List Signed) × IsPatchText text signed)
    ⊎ ((n : ℕ) × (bad : List ℕ) × IsFirstBad text n bad)

-- A first bad line isn't without a kind.
abbrev pub EachKind : Type 0
EachKind =
    (text : List ℕ) (n : ℕ) (bad : List ℕ) → IsFirstBad text n bad →
    ¬ ((kind : LineKind) → ¬ (IsBadLine text n kind))

-- A text has at most one first bad line, of one kind.
abbrev pub OneBadLine : Type 0
OneBadLine =
    (text : List ℕ) (n m : ℕ) (kind other : LineKind) → IsBadLine text n kind →
    IsBadLine text m other
    → (n ≡ m) × (kind ≡ other)

-- The canonical line of a quad that the grammar gives states that quad, where it isn't too long.
abbrev pub CanonicalStates : Type 0
CanonicalStates =
    (quad : Quad) → IsGiven quad → length (line quad) ≤ line_limit
    → IsPatchText (line quad) (record { add = true; quad = quad } ∷ [])

-- Two quads that the grammar gives have one canonical line only where they are one.
abbrev pub CanonicalIsOne : Type 0
CanonicalIsOne =
    (quad other : Quad) → IsGiven quad → IsGiven other → line quad ≡ line other → quad ≡ other

-- Reading a line from left to right gives what the grammar relates to its characters, and nothing
-- else.
abbrev pub LineRead : Type 0
LineRead =
    (allowed : Allowed) (characters : List ℕ) (stated : Option Signed)
    → (line_at allowed characters ≡ Some stated) ↔ IsLineOf allowed characters stated

-- What a text states is of such terms as canonical lines can give back.
abbrev pub StatesGiven : Type 0
StatesGiven = (text : List ℕ) (signed : List Signed) → IsPatchText text signed →
    AllByRecursion (λ line. IsGiven line.quad) signed

-- Worked cases of bad lines: one of each kind, and of two faults the one that stands first in the
-- line.
abbrev pub WorkedBadLines : Type 0
WorkedBadLines =
    IsBadLine third_line_relative 3 RelativeIri × IsBadLine escaped_space 1 BadEscape
    × IsBadLine escaped_surrogate 1 BadEscape
    × IsBadLine relative_before_escape 1 RelativeIri
    × IsBadLine literal_predicate 1 Syntax
    × IsBadLine no_utf8 1 NotUtf8

-- A line with more bytes than a line may have is bad by its length, whatever stands in it.
abbrev pub LongLineIsBad : Type 0
LongLineIsBad =
    (line : List ℕ) → lines_of line ≡ line ∷ [] → line_limit < length line →
    IsBadLine line 1 LineTooLong
