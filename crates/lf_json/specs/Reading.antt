-- The value of a JSON text: the value that `serde_json` reads, with whole numbers of 64 bits and no
-- others.
use Rattle.std.specs.Prelude.{ℕ, suc, pos, List, [], ◌∷◌, ◌++◌, ◌&&◌, Bool, false, not, nat_eq, bytes_eq, codes, decimal, flat_map, encode_utf8, Option, Some, None, if◌then◌else◌}
use Rattle.std.specs.Str.{chars}
use Rattle.serde_json.specs.Data.{Num, unsigned, negative, float, Data, null, boolean, number, string, array, object, Items, no_items, item, Members, no_members, member}
use Rattle.serde_json.specs.Find.{is_float}
use Rattle.lf_model.specs.JsonData as j

-- a number: a fraction where it isn't whole, or doesn't fit 64 bits
abbrev pub number_value : Num → j.JsonValue
number_value (unsigned n) = j.whole (pos n)
number_value (negative z) = j.whole z
number_value (float x) = j.fraction

abbrev mutual
  pub json_of : Data → j.JsonValue
  json_of null = j.null
  json_of (boolean b) = j.truth b
  json_of (number n) = number_value n
  json_of (string s) = j.text s
  json_of (array items) = j.array (items_json items)
  json_of (object members) = j.object (members_json members)

  pub items_json : Items → j.JsonItems
  items_json no_items = j.no_items
  items_json (item value rest) = j.item (json_of value) (items_json rest)

  pub members_json : Members → j.JsonMembers
  members_json no_members = j.no_members
  members_json (member key value rest) = j.member key (json_of value) (members_json rest)

-- ---- the JSON pointer (RFC 6901) of the first number that is a fraction

-- `~0` stands for `~`, and `~1` for `/`
abbrev pub pointer_char : ℕ → List ℕ
pointer_char c =
    if nat_eq c 126 then 126 ∷ 48 ∷ [] else if nat_eq c 47 then 126 ∷ 49 ∷ [] else encode_utf8 c

abbrev pub pointer_key : List ℕ → List ℕ
pointer_key key = 47 ∷ flat_map pointer_char (chars key)

abbrev pub pointer_place : ℕ → List ℕ
pointer_place place = 47 ∷ decimal place

-- the pointer behind its first part, or else what comes later
abbrev pub found_or : List ℕ → Option (List ℕ) → Option (List ℕ) → Option (List ℕ)
found_or part (Some rest) later = Some (part ++ rest)
found_or part None later = later

-- only the value of a key `@version` may be a fraction
abbrev pub may_be_fraction : List ℕ → Bool
may_be_fraction key = bytes_eq key (codes "@version")

abbrev mutual
  -- where the value itself may be a fraction or not
  pub fraction_in : Bool → Data → Option (List ℕ)
  fraction_in allowed null = None
  fraction_in allowed (boolean b) = None
  fraction_in allowed (number n) = if is_float n && not allowed then Some [] else None
  fraction_in allowed (string s) = None
  fraction_in allowed (array items) = fraction_in_items 0 items
  fraction_in allowed (object members) = fraction_in_members members

  -- in items from this place on
  pub fraction_in_items : ℕ → Items → Option (List ℕ)
  fraction_in_items place no_items = None
  fraction_in_items place (item value rest) =
      found_or (pointer_place place) (fraction_in false value) (fraction_in_items (suc place) rest)

  pub fraction_in_members : Members → Option (List ℕ)
  fraction_in_members no_members = None
  fraction_in_members (member key value rest) = found_or (pointer_key key)
      (fraction_in (may_be_fraction key) value) (fraction_in_members rest)
