-- Looking up the members of a JSON object.
use Rattle.std.specs.Prelude.{List, ℕ, Bool, true, ◌&&◌, if◌then◌else◌, Option, Some, None, is_some}
use Rattle.lf_model.specs.JsonData.{JsonValue, JsonMembers, no_members, member}
use Rattle.lf_rdf.specs.Equality.{text_eq}

-- the value of a key
abbrev pub value_of : List ℕ → JsonMembers → Option JsonValue
value_of key no_members = None
value_of key (member own value rest) = if text_eq key own then Some value else value_of key rest

abbrev pub has_key : List ℕ → JsonMembers → Bool
has_key key members = is_some (value_of key members)

-- whether each key passes a test
abbrev pub all_keys : (List ℕ → Bool) → JsonMembers → Bool
all_keys test no_members = true
all_keys test (member key value rest) = test key && all_keys test rest

-- the value of a key that is the only one
abbrev pub only_value : List ℕ → JsonMembers → Option JsonValue
only_value key (member own value no_members) = if text_eq key own then Some value else None
only_value key (member own value (member _ _ _)) = None
only_value key no_members = None
