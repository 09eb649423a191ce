-- The compact printed text of a JSON value (RFC 8259, section 2: no insignificant whitespace).
use Rattle.std.specs.Prelude.{List, [], ◌∷◌, ℕ, ◌+◌, ℤ, pos, negsuc, Bool, codes, decimal, if◌then◌else◌}
use Rattle.lf_base.specs.Ascii as ch
use Rattle.lf_model.specs.JsonData.{JsonValue, null, truth, whole, fraction, text, array, object, JsonItems, no_items, item, JsonMembers, no_members, member}
use Rattle.def_printed.specs.JsonText.{json_string, json_member, json_array, json_object}

-- a truth value
abbrev pub truth_text : Bool → List ℕ
truth_text flag = if flag then codes "true" else codes "false"

-- a whole number in decimal digits, with a sign where it is below 0
abbrev pub whole_text : ℤ → List ℕ
whole_text (pos n) = decimal n
whole_text (negsuc n) = ch.hyphen ∷ decimal (n + 1)

-- a value; no document holds a fraction
abbrev mutual
  pub json_text : JsonValue → List ℕ
  json_text null = codes "null"
  json_text (truth flag) = truth_text flag
  json_text (whole number) = whole_text number
  json_text fraction = []
  json_text (text characters) = json_string characters
  json_text (array items) = json_array (item_texts items)
  json_text (object members) = json_object (member_texts members)

  pub item_texts : JsonItems → List (List ℕ)
  item_texts no_items = []
  item_texts (item value rest) = json_text value ∷ item_texts rest

  pub member_texts : JsonMembers → List (List ℕ)
  member_texts no_members = []
  member_texts (member key value rest) = json_member key (json_text value) ∷ member_texts rest
