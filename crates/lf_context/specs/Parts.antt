-- What a program reads from a part of a context.
use Rattle.std.specs.Prelude.{◌≡◌, Option, Result, Ok, Err, ⊤}
use Rattle.std.specs.Option.{option_map, option_copied}
use Rattle.std.specs.Borrow.{Bor}
use Rattle.lf_model.specs.declared.error.LdError.{LdError}
use Rattle.lf_model.specs.declared.json.Json.{Json}
use Rattle.lf_model.specs.JsonBridge.{json_data}
use Rattle.lf_model.specs.JsonData.{JsonValue}
use Rattle.lf_context.specs.declared.error.ContextErr.{ContextErr}
use Rattle.lf_context.specs.declared.error.ContextErr.TheVariants.{Ld, Memory}

-- the data of an optional value
abbrev pub data_of : Option (Bor Json) → Option JsonValue
data_of value = option_map json_data (option_copied value)

-- the answer of a reader is the definition's, or memory is wanting
abbrev pub IsPart : {A : Type 0} → Result A LdError → Result A ContextErr → Type 0
IsPart r (Ok x) = r ≡ Ok x
IsPart r (Err (Ld e)) = r ≡ Err e
IsPart r (Err Memory) = ⊤
