-- Entries that come under one key of a map (JSON-LD 1.1 Processing Algorithms and API, section
-- 5.1.2: a map is written in order of its keys; appendix: add value).
use Rattle.std.specs.Prelude.{List, [], ◌∷◌, ℕ, Bool, false, filter, map}
use Rattle.std.specs.List.{flat_map}
use Rattle.std.specs.Ordering.{nat_cmp}
use Rattle.std.specs.declared.cmp.Ordering.TheVariants.{Less, Equal, Greater}
use Rattle.std.specs.Cmp.Lexicographic.{slice_cmp}
use Rattle.lf_rdf.specs.Equality.{text_eq}
use Rattle.lf_model.specs.JsonData.{JsonValue, null, array, object, items_of, items_list, members_of}

-- a key before those that are greater, once
abbrev pub put_key : List ℕ → List (List ℕ) → List (List ℕ)
put_key key [] = key ∷ []
put_key key (other ∷ rest) = elim (slice_cmp nat_cmp key other) [
  | Less ↦ key ∷ other ∷ rest
  | Equal ↦ other ∷ rest
  | Greater ↦ other ∷ put_key key rest
]

-- the keys of the entries, each once, in byte order
abbrev pub keys_of : {A : Type 0} → List (List ℕ × A) → List (List ℕ)
keys_of [] = []
keys_of (first ∷ rest) = put_key first.0 (keys_of rest)

-- what comes under a key, in order
abbrev pub under : {A : Type 0} → List ℕ → List (List ℕ × A) → List A
under key entries = map (λ e. e.1) (filter (λ e. text_eq e.0 key) entries)

-- for each key what joins all that comes under it
abbrev pub grouped : {A B : Type 0} → (List A → B) → List (List ℕ × A) → List (List ℕ × B)
grouped join entries = map (λ key. (key, join (under key entries))) (keys_of entries)

-- an array; one that holds null alone is empty
abbrev pub array_of : List JsonValue → JsonValue
array_of (null ∷ []) = array (items_of [])
array_of values = array (items_of values)

-- one value stands alone, unless it must be an array; any other number of values makes an array
abbrev pub alone_or_array : Bool → List JsonValue → JsonValue
alone_or_array false (value ∷ []) = value
alone_or_array _ values = array_of values

-- an array gives its elements, and any other value itself
abbrev pub elements_of : JsonValue → List JsonValue
elements_of (array items) = items_list items
elements_of value = value ∷ []

-- one entry under a key stays as it is; the elements of several stand in one array
abbrev pub together : List JsonValue → JsonValue
together (value ∷ []) = value
together values = array_of (flat_map elements_of values)

-- the map of these entries
abbrev pub object_of : List (List ℕ × JsonValue) → JsonValue
object_of entries = object (members_of (grouped together entries))
