-- What the compaction of all trees of a document answers.
use Rattle.std.specs.Prelude.{◌≡◌, List, Option, Some, None, Result, Ok, Err, Vec, map}
use Rattle.std.specs.declared.alloc.Global.{Global}
use Rattle.lf_model.specs.declared.error.LdError.TheVariants.{IriConfusedWithPrefix}
use Rattle.lf_model.specs.declared.json.Json.{Json}
use Rattle.lf_model.specs.JsonData.{JsonValue}
use Rattle.lf_model.specs.JsonBridge.{json_data}
use Rattle.lf_compact.specs.declared.error.CompactErr.{CompactErr}
use Rattle.lf_compact.specs.declared.error.CompactErr.TheVariants as e

-- the maps, or none, which is the one error; want of memory says nothing
abbrev pub CompactedAll : Result (Vec Json Global) CompactErr → Option (List JsonValue) → Type 0
CompactedAll (Ok maps) answer = answer ≡ Some (map json_data maps.items)
CompactedAll (Err (e.Ld error)) answer = (answer ≡ None) × (error ≡ IriConfusedWithPrefix)
CompactedAll (Err e.Memory) answer = Unit {0}
