-- What a compaction answers.
use Rattle.std.specs.Prelude.{◌≡◌, List, ◌++◌, ℕ, Option, Some, None, Result, Ok, Err}
use Rattle.lf_model.specs.declared.error.LdError.TheVariants.{IriConfusedWithPrefix}
use Rattle.lf_model.specs.declared.json.Json.{Json}
use Rattle.lf_model.specs.JsonData.{JsonValue}
use Rattle.lf_model.specs.JsonBridge.{json_data}
use Rattle.lf_select.specs.declared.error.SelectErr.{SelectErr}
use Rattle.lf_select.specs.declared.error.SelectErr.TheVariants as s
use Rattle.lf_compact.specs.Members.{Hold, Members}
use Rattle.lf_compact.specs.declared.error.CompactErr.{CompactErr}
use Rattle.lf_compact.specs.declared.error.CompactErr.TheVariants as e

-- the error that a confused IRI raises
abbrev pub raised : SelectErr → CompactErr
raised s.Confused = e.Ld IriConfusedWithPrefix
raised s.Memory = e.Memory

-- the definition's value, or none, which is the one error; want of memory says nothing
abbrev pub Compacted : Result Json CompactErr → Option JsonValue → Type 0
Compacted (Ok json) answer = answer ≡ Some (json_data json)
Compacted (Err (e.Ld error)) answer = (answer ≡ None) × (error ≡ IriConfusedWithPrefix)
Compacted (Err e.Memory) answer = Unit {0}

-- the same of anything that a function reads as the definition's value
abbrev pub Gives : {T D : Type 0} → (T → D) → Result T CompactErr → Option D → Type 0
Gives read (Ok made) answer = answer ≡ Some (read made)
Gives read (Err (e.Ld error)) answer = (answer ≡ None) × (error ≡ IriConfusedWithPrefix)
Gives read (Err e.Memory) answer = Unit {0}

-- the members hold these entries beside those before
abbrev pub AddsEntries : Members → Members → List (List ℕ × JsonValue) → Type 0
AddsEntries before after added =
    (entries : List (List ℕ × JsonValue)) → Hold before entries → Hold after (entries ++ added)

-- the members hold the definition's entries beside those before, or there are none
abbrev pub AddsAll :
    Result (Unit {0}) CompactErr → Members → Members → Option (List (List ℕ × JsonValue)) → Type 0
AddsAll (Ok _) before after answer =
    (added : List (List ℕ × JsonValue)) × (answer ≡ Some added) × AddsEntries before after added
AddsAll (Err (e.Ld error)) before after answer = (answer ≡ None) × (error ≡ IriConfusedWithPrefix)
AddsAll (Err e.Memory) before after answer = Unit {0}
