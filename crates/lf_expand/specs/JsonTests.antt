-- What is asked of JSON values while a frame is read.
use Rattle.std.specs.Prelude.{List, ℕ, Bool, true, false, Option, Some, None}
use Rattle.lf_model.specs.JsonData.{JsonValue, text, object, no_members}

-- the empty map
abbrev pub is_empty_map : JsonValue → Bool
is_empty_map (object no_members) = true
is_empty_map _ = false

-- the text that a value is
abbrev pub text_in : JsonValue → Option (List ℕ)
text_in (text t) = Some t
text_in _ = None
