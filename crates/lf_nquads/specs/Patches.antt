-- Reading a whole patch text.
use Rattle.std.specs.Prelude.{◌≡◌, ℕ, nat_eq, not, Bool, List, [], ◌∷◌, ◌++◌, Option, Some, None, Result, Ok, Err, if◌then◌else◌}
use Rattle.lf_base.specs.Ascii as ch
use Rattle.lf_rdf.specs.declared.quad.Signed.{Signed}
use Rattle.lf_rdf.specs.declared.quad.Patch.{Patch}
use Rattle.def_patch_texts.specs.declared.kind.LineKind.{LineKind}
use Rattle.def_patch_texts.specs.PatchText.{is_line_end, IsLine, with_stated}
use Rattle.def_patch_texts.specs.BadLine.{IsKind, IsGood}
use Rattle.lf_nquads.specs.declared.error.Fault.{Fault}
use Rattle.lf_nquads.specs.declared.error.Fault.TheVariants as fault
use Rattle.lf_nquads.specs.declared.error.LineErr.{LineErr}
use Rattle.lf_nquads.specs.declared.error.LineErr.TheVariants as err

-- the most bytes of a patch text
abbrev pub text_limit : ℕ
text_limit = 67108864

-- a line that isn't in the grammar, and what is wrong with it
abbrev pub IsBadOf : List ℕ → LineKind → Type 0
IsBadOf bytes kind = IsKind bytes kind × ¬ (IsGood bytes)

-- what is said of one line
abbrev pub Judges : List ℕ → Result (Option Signed) Fault → Type 0
Judges bytes (Ok stated) = IsLine bytes stated
Judges bytes (Err fault.Memory) = Unit {0}
Judges bytes (Err (fault.Bad kind)) = IsBadOf bytes kind

-- what a line with this number adds to the list
abbrev pub Takes : List ℕ → ℕ → List Signed → Result (Unit {0}) LineErr → List Signed → Type 0
Takes bytes number before (Ok done) after =
    (stated : Option Signed) × IsLine bytes stated × (after ≡ before ++ with_stated stated [])
Takes bytes number before (Err err.Memory) after = Unit {0}
Takes bytes number before (Err (err.Bad n kind)) after = (n ≡ number) × IsBadOf bytes kind

-- a byte of a line: neither CR nor LF
abbrev pub is_inside : ℕ → Bool
is_inside byte = not (is_line_end byte)

-- what follows the end of a line, where it has one: LF belongs to a CR before it
abbrev pub without_lf : List ℕ → List ℕ
without_lf [] = []
without_lf (byte ∷ rest) = if nat_eq byte ch.line_feed then rest else (byte ∷ rest)

abbrev pub behind_end : List ℕ → Option (List ℕ)
behind_end [] = None
behind_end (byte ∷ rest) = Some (if nat_eq byte ch.carriage_return then without_lf rest else rest)

-- whether a text is bad, where the answer says so
abbrev pub IfBad : Result Patch LineErr → (ℕ → LineKind → Type 0) → Type 0
IfBad (Ok patch) P = Unit {0}
IfBad (Err err.Memory) P = Unit {0}
IfBad (Err (err.Bad n kind)) P = P n kind
