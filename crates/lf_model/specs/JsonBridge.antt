-- The data of a JSON value, by a fold over the value.
use Rattle.std.specs.Prelude.{List, [], ◌∷◌, map}
use Rattle.lf_sorted.specs.declared.map.Entry.{Entry}
use Rattle.lf_model.specs.declared.json.Json.{Json}
use Rattle.lf_model.specs.declared.json.Json.TheFolds.{fold-Json}
use Rattle.lf_model.specs.declared.json.Json.TheOpen.{Json-F}
use Rattle.lf_model.specs.JsonData.{JsonValue, null, truth, whole, fraction, text, array, object, JsonItems, items_of, JsonMembers, no_members, member}

-- members from entries
abbrev pub members_of_entries : List (Entry JsonValue) → JsonMembers
members_of_entries [] = no_members
members_of_entries (first ∷ rest) = member first.key first.value (members_of_entries rest)

-- one level, with each value inside already seen as its data
abbrev pub json_step : Json-F JsonValue → JsonValue
json_step Json-F.Null = null
json_step (Json-F.Bool b) = truth b
json_step (Json-F.Whole n) = whole n
json_step Json-F.Fraction = fraction
json_step (Json-F.Text t) = text t
json_step (Json-F.List items) = array (items_of items)
json_step (Json-F.Map entries) = object (members_of_entries entries)

abbrev pub json_data : Json → JsonValue
json_data = fold-Json JsonValue json_step

-- the values of an array
abbrev pub items_data : List Json → JsonItems
items_data items = items_of (map json_data items)

-- the members of an object
abbrev pub members_data : List (Entry Json) → JsonMembers
members_data [] = no_members
members_data (first ∷ rest) = member first.key (json_data first.value) (members_data rest)
