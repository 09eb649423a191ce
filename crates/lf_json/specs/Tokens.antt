-- The tokens of a value.
use Rattle.std.specs.Prelude.{◌≡◌, List, [], ◌∷◌, ◌++◌, ◌||◌, Bool, true, false}
use Rattle.json.specs.Token as t
use Rattle.json.specs.Token.{Token}
use Rattle.json.specs.Written.{Written}
use Rattle.serde_json.specs.Data.{Data}
use Rattle.serde_json.specs.Written.{has_float, compact_text}
use Rattle.lf_model.specs.JsonData.{JsonValue, null, truth, whole, fraction, text, array, object, JsonItems, no_items, item, JsonMembers, no_members, member}
use Rattle.def_documents.specs.JsonPrint.{json_text, whole_text}
use Rattle.lf_json.specs.Reading.{json_of}

-- the writer has these tokens more
pub record Appends (old new : Written) (added : List Token) : Type 0 where
  pub before : new.before ≡ old.before
  pub tokens : new.tokens ≡ old.tokens ++ added

abbrev mutual
  pub value_tokens : JsonValue → List Token
  value_tokens null = t.null ∷ []
  value_tokens (truth b) = t.boolean b ∷ []
  value_tokens (whole n) = t.number (whole_text n) ∷ []
  value_tokens fraction = []
  value_tokens (text s) = t.string s ∷ []
  value_tokens (array items) = t.begin_array ∷ item_tokens items
  value_tokens (object members) = t.begin_object ∷ member_tokens members

  -- with the closing bracket
  pub item_tokens : JsonItems → List Token
  item_tokens no_items = t.end_array ∷ []
  item_tokens (item value rest) = value_tokens value ++ item_tokens rest

  pub member_tokens : JsonMembers → List Token
  member_tokens no_members = t.end_object ∷ []
  member_tokens (member key value rest) = (t.key key ∷ value_tokens value) ++ member_tokens rest

-- whether a number in the value is a fraction
abbrev mutual
  pub has_fraction : JsonValue → Bool
  has_fraction null = false
  has_fraction (truth b) = false
  has_fraction (whole n) = false
  has_fraction fraction = true
  has_fraction (text s) = false
  has_fraction (array items) = items_have_fraction items
  has_fraction (object members) = members_have_fraction members

  pub items_have_fraction : JsonItems → Bool
  items_have_fraction no_items = false
  items_have_fraction (item value rest) = has_fraction value || items_have_fraction rest

  pub members_have_fraction : JsonMembers → Bool
  members_have_fraction no_members = false
  members_have_fraction (member key value rest) = has_fraction value || members_have_fraction rest

-- the text of what `serde_json` read is its own text
abbrev pub TextIsCompact : Type 0
TextIsCompact = (d : Data) → has_float d ≡ false → json_text (json_of d) ≡ compact_text d
