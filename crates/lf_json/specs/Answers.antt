-- What the reader answers.
use Rattle.std.specs.Prelude.{◌≡◌, ℕ, List, false, Some, None, Result, Ok, Err, IsUtf8}
use Rattle.serde_json.specs.Data.{Data}
use Rattle.serde_json.specs.Read.{read}
use Rattle.lf_model.specs.declared.json.Json.{Json}
use Rattle.lf_model.specs.JsonBridge.{json_data}
use Rattle.lf_json.specs.declared.read.JsonErr.{JsonErr}
use Rattle.lf_json.specs.declared.read.JsonErr.TheVariants.{NotJson, Fractional, Memory}
use Rattle.lf_json.specs.Reading.{json_of, fraction_in}

-- the answer for the value that was read
abbrev pub Converts : Data → Result Json JsonErr → Type 0
Converts value (Ok json) = (fraction_in false value ≡ None) × (json_data json ≡ json_of value)
Converts value (Err (Fractional path)) = fraction_in false value ≡ Some path
Converts value (Err NotJson) = ⊥
Converts value (Err Memory) = Unit {0}

-- the text states the value
abbrev pub States : List ℕ → Data → Type 0
States bytes value = IsUtf8 bytes × (read bytes ≡ Some value)

-- the answer for a text
abbrev pub Reads : List ℕ → Result Json JsonErr → Type 0
Reads bytes (Ok json) = (value : Data) × States bytes value × (fraction_in false value ≡ None)
    × (json_data json ≡ json_of value)
Reads bytes (Err (Fractional path)) =
    (value : Data) × States bytes value × (fraction_in false value ≡ Some path)
Reads bytes (Err NotJson) = IsUtf8 bytes → read bytes ≡ None
Reads bytes (Err Memory) = Unit {0}
