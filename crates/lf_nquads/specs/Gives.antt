-- What a reader of a line answers: what reading gives, or its kind where reading stops, unless no
-- memory was found.
use Rattle.std.specs.Prelude.{◌≡◌, ℕ, false, List, ◌∷◌, ◌++◌, Option, Some, None, Result, Ok, Err, IsTrue, encode_utf8_all}
use Rattle.lf_base.specs.Ascii as ch
use Rattle.def_patch_texts.specs.declared.kind.LineKind.{LineKind}
use Rattle.def_patch_texts.specs.Characters.{is_hex_digit, hex_digit}
use Rattle.def_patch_texts.specs.PatchText.{absolute_iris}
use Rattle.def_patch_texts.specs.Reading.{string_escape_at}
use Rattle.lf_nquads.specs.Scanning.{first_is}
use Rattle.def_patch_texts.specs.declared.kind.LineKind.TheVariants.{BadEscape}
use Rattle.lf_nquads.specs.declared.error.Fault.{Fault}
use Rattle.lf_nquads.specs.declared.error.Fault.TheVariants.{Bad, Memory}

abbrev pub Fails : {Y : Type 0} → Fault → Result Y LineKind → Type 0
Fails Memory read = Unit {0}
Fails (Bad kind) read = read ≡ Err kind

abbrev pub Gives : {X Y : Type 0} → (X → Y) → Result X Fault → Result Y LineKind → Type 0
Gives view (Ok x) read = read ≡ Ok (view x)
Gives view (Err e) read = Fails e read

-- the UTF-8 of the characters that were read
abbrev pub encoded : Result (List ℕ × List ℕ) LineKind → Result (List ℕ × List ℕ) LineKind
encoded (Ok read) = Ok (encode_utf8_all read.0, read.1)
encoded (Err kind) = Err kind

-- these bytes, before those that were read
abbrev pub with_front :
    List ℕ → Result (List ℕ × List ℕ) LineKind → Result (List ℕ × List ℕ) LineKind
with_front front (Ok read) = Ok (front ++ read.0, read.1)
with_front front (Err kind) = Err kind

-- A hexadecimal digit, taken from the front of the characters, has this value; or none stands
-- there.
abbrev pub GivesDigit : List ℕ → Result ℕ Fault → List ℕ → Type 0
GivesDigit before (Ok value) after =
    (c : ℕ) × (before ≡ c ∷ after) × IsTrue (is_hex_digit c) × (value ≡ hex_digit c)
GivesDigit before (Err (Bad kind)) after =
    (kind ≡ BadEscape) × (first_is is_hex_digit before ≡ false)
GivesDigit before (Err Memory) after = ⊥

-- what must stand behind a backslash
abbrev pub as_escape : {A : Type 0} → Option A → Result A LineKind
as_escape None = Err BadEscape
as_escape (Some x) = Ok x

-- what stands behind a backslash in a string, where each escape is allowed
abbrev pub string_behind : List ℕ → Option (ℕ × List ℕ)
string_behind behind = string_escape_at absolute_iris (ch.backslash ∷ behind) behind
