-- Arrays of compacted values.
use Rattle.std.specs.Prelude.{List, [], ◌∷◌, Bool, true, false}
use Rattle.lf_model.specs.JsonData.{JsonValue, null}

-- null and nothing else
abbrev pub is_lone_null : List JsonValue → Bool
is_lone_null (null ∷ []) = true
is_lone_null _ = false
