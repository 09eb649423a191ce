-- How the terms of a map stand while they are defined, told by marks at their names.
use Rattle.std.specs.Prelude.{◌≡◌, List, [], ◌∷◌, ℕ, suc, Bool, true, false, Option, Some, None, if◌then◌else◌}
use Rattle.std.specs.Ordering.{is_eq, nat_cmp}
use Rattle.std.specs.Cmp.Lexicographic.{slice_cmp}
use Rattle.std.specs.declared.cmp.Ordering.{Ordering}
use Rattle.std.specs.Map.{keys_of, lookup}
use Rattle.std.specs.BTreeMap.{is_at}
use Rattle.lf_model.specs.JsonBridge.{json_data}
use Rattle.lf_model.specs.JsonData.{JsonValue, JsonMembers}
use Rattle.def_contexts.specs.Keywords.{one_of}
use Rattle.def_contexts.specs.Defining.{Entry, entry_value, Standing, ready, begun, waiting}
use Rattle.def_contexts.specs.Table.{terms_of}
use Rattle.lf_context.specs.declared.walk.Standing.{Standing as Told}
use Rattle.lf_context.specs.declared.walk.Standing.TheVariants as told

abbrev pub name_cmp : List ℕ → List ℕ → Ordering
name_cmp = slice_cmp nat_cmp

-- the mark at a name
abbrev pub mark_at : List ℕ → List (List ℕ × Bool) → Option Bool
mark_at name marks = lookup (is_at (name_cmp name)) marks

-- a term that is done is marked true, and one that is being defined false
abbrev pub mark_of : Bool → Bool → Option Bool
mark_of true being = Some true
mark_of false true = Some false
mark_of false false = None

-- the marks say which terms are done and which are being defined
abbrev pub AreMarked : List (List ℕ × Bool) → List (List ℕ) → List (List ℕ) → Type 0
AreMarked marks done beings =
    (x : List ℕ) → mark_at x marks ≡ mark_of (one_of done x) (one_of beings x)

-- the name has this mark then, and every other its own
abbrev pub Puts : List ℕ → Bool → List (List ℕ × Bool) → List (List ℕ × Bool) → Type 0
Puts name b marks after =
    (x : List ℕ) → mark_at x after ≡ (if is_eq (name_cmp name x) then Some b else mark_at x marks)

-- how a term stands by its mark and its value
abbrev pub standing_by : Option Bool → Option JsonValue → Standing
standing_by mark None = ready
standing_by (Some true) (Some value) = ready
standing_by (Some false) (Some value) = begun
standing_by None (Some value) = waiting value

abbrev pub standing_in : JsonMembers → List (List ℕ × Bool) → List ℕ → Standing
standing_in given marks name = standing_by (mark_at name marks) (entry_value name (terms_of given))

-- the program's answer is how the term stands
abbrev pub IsStanding : Standing → Told → Type 0
IsStanding s told.Ready = s ≡ ready
IsStanding s told.Begun = s ≡ begun
IsStanding s (told.Waiting value) = s ≡ waiting (json_data value.now)

-- how many terms aren't among these
abbrev pub unmarked : List (List ℕ) → List Entry → ℕ
unmarked marked [] = 0
unmarked marked (e ∷ rest) =
    if one_of marked e.name then unmarked marked rest else suc (unmarked marked rest)

-- how many terms have no mark
abbrev pub left : List (List ℕ × Bool) → JsonMembers → ℕ
left marks given = unmarked (keys_of marks) (terms_of given)
