-- The members of a map that is being made.
use Rattle.std.specs.Prelude.{◌≡◌, List, [], ◌∷◌, ◌++◌, ℕ, Option, Some, None, if◌then◌else◌, map, option_map}
use Rattle.std.specs.Ordering.{nat_cmp}
use Rattle.std.specs.Cmp.Lexicographic.{slice_cmp}
use Rattle.std.specs.BTreeMap.{BTreeMap, get}
use Rattle.std.specs.List.{flat_map}
use Rattle.lf_rdf.specs.Equality.{text_eq}
use Rattle.lf_model.specs.JsonData.{JsonValue}
use Rattle.lf_model.specs.JsonBridge.{json_data}
use Rattle.def_documents.specs.Grouping.{array_of, elements_of, under}
use Rattle.lf_compact.specs.declared.members.Joined.{Joined}
use Rattle.lf_compact.specs.declared.members.Joined.TheVariants as j

-- one value, or the elements of several
pub data Join : Type 0 where
  one : JsonValue → Join
  several : List JsonValue → Join

abbrev pub joined_data : Joined → Join
joined_data (j.One value) = one (json_data value)
joined_data (j.Several values) = several (map json_data values.items)

-- the elements so far
abbrev pub elements : Join → List JsonValue
elements (one value) = elements_of value
elements (several values) = values

abbrev pub one_more : Join → JsonValue → Join
one_more before value = several (elements before ++ elements_of value)

-- what is written under the key
abbrev pub value_of : Join → JsonValue
value_of (one value) = value
value_of (several values) = array_of values

-- what these values come to, where there are any
abbrev pub join : List JsonValue → Option Join
join [] = None
join (value ∷ []) = Some (one value)
join (first ∷ second ∷ rest) = Some (several (flat_map elements_of (first ∷ second ∷ rest)))

abbrev pub Members : Type 0
Members = BTreeMap (List ℕ) Joined

-- the members hold these entries
abbrev pub Hold : Members → List (List ℕ × JsonValue) → Type 0
Hold members entries =
    (key : List ℕ) →
    option_map joined_data (get (slice_cmp nat_cmp) members key) ≡ join (under key entries)

-- what comes to be under a key
abbrev pub with_more : Option Join → JsonValue → Join
with_more None value = one value
with_more (Some before) value = one_more before value

-- what is under a key
abbrev pub joined_at : Members → List ℕ → Option Join
joined_at members key = option_map joined_data (get (slice_cmp nat_cmp) members key)

-- a value was put under a key
abbrev pub Adds : Members → Members → List ℕ → JsonValue → Type 0
Adds before after key value =
    (q : List ℕ) →
    joined_at after q
    ≡ (if text_eq key q then Some (with_more (joined_at before q) value)
    else joined_at before q)
