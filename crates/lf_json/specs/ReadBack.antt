-- Texts that read back as the value that they were printed for.
use Rattle.std.specs.Prelude.{◌≡◌, ◌≤◌, ◌<◌, ◌^◌, ℕ, suc, max, ℤ, pos, negsuc, List, [], ◌∷◌, false, None, Result, Ok, Err, ⊤}
use Rattle.std.specs.List.Sorted.{IsStrictlySortedBy}
use Rattle.serde_json.specs.Data.{Data}
use Rattle.lf_sorted.specs.Entries.{text_cmp}
use Rattle.lf_model.specs.declared.json.Json.{Json}
use Rattle.lf_model.specs.JsonBridge.{json_data}
use Rattle.lf_model.specs.JsonData.{JsonValue, null, truth, whole, fraction, text, array, object, JsonItems, no_items, item, JsonMembers, no_members, member}
use Rattle.lf_json.specs.declared.read.JsonErr.{JsonErr}
use Rattle.lf_json.specs.declared.read.JsonErr.TheVariants.{NotJson, Fractional, Memory}
use Rattle.lf_json.specs.Reading.{json_of, fraction_in}
use Rattle.lf_json.specs.Answers.{States, Reads}

-- a whole number from -2^63 to 2^64 - 1
abbrev pub IsWord : ℤ → Type 0
IsWord (pos n) = n < 2 ^ 64
IsWord (negsuc n) = n < 2 ^ 63

-- each whole number is one of 64 bits
abbrev mutual
  pub HasWords : JsonValue → Type 0
  HasWords null = ⊤
  HasWords (truth b) = ⊤
  HasWords (whole n) = IsWord n
  HasWords fraction = ⊤
  HasWords (text s) = ⊤
  HasWords (array items) = ItemsHaveWords items
  HasWords (object members) = MembersHaveWords members

  pub ItemsHaveWords : JsonItems → Type 0
  ItemsHaveWords no_items = ⊤
  ItemsHaveWords (item value rest) = HasWords value × ItemsHaveWords rest

  pub MembersHaveWords : JsonMembers → Type 0
  MembersHaveWords no_members = ⊤
  MembersHaveWords (member key value rest) = HasWords value × MembersHaveWords rest

-- how deep arrays and objects nest
abbrev mutual
  pub nesting : JsonValue → ℕ
  nesting null = 0
  nesting (truth b) = 0
  nesting (whole n) = 0
  nesting fraction = 0
  nesting (text s) = 0
  nesting (array items) = suc (items_nesting items)
  nesting (object members) = suc (members_nesting members)

  pub items_nesting : JsonItems → ℕ
  items_nesting no_items = 0
  items_nesting (item value rest) = max (nesting value) (items_nesting rest)

  pub members_nesting : JsonMembers → ℕ
  members_nesting no_members = 0
  members_nesting (member key value rest) = max (nesting value) (members_nesting rest)

abbrev pub member_keys : JsonMembers → List (List ℕ)
member_keys no_members = []
member_keys (member key value rest) = key ∷ member_keys rest

-- each object has its keys in byte order, each once
abbrev mutual
  pub InKeyOrder : JsonValue → Type 0
  InKeyOrder null = ⊤
  InKeyOrder (truth b) = ⊤
  InKeyOrder (whole n) = ⊤
  InKeyOrder fraction = ⊤
  InKeyOrder (text s) = ⊤
  InKeyOrder (array items) = ItemsInKeyOrder items
  InKeyOrder (object members) =
      IsStrictlySortedBy text_cmp (member_keys members) × MembersInKeyOrder members

  pub ItemsInKeyOrder : JsonItems → Type 0
  ItemsInKeyOrder no_items = ⊤
  ItemsInKeyOrder (item value rest) = InKeyOrder value × ItemsInKeyOrder rest

  pub MembersInKeyOrder : JsonMembers → Type 0
  MembersInKeyOrder no_members = ⊤
  MembersInKeyOrder (member key value rest) = InKeyOrder value × MembersInKeyOrder rest

-- what JSON texts can say: whole numbers of 64 bits, in at most 127 levels
abbrev pub IsReadable : JsonValue → Type 0
IsReadable value = HasWords value × (nesting value ≤ 127)

-- the text states this value
abbrev pub ReadsAs : List ℕ → JsonValue → Type 0
ReadsAs bytes value =
    (read : Data) × States bytes read × (fraction_in false read ≡ None) × (json_of read ≡ value)

-- the answer is this value, or memory is lacking
abbrev pub GivesBack : JsonValue → Result Json JsonErr → Type 0
GivesBack value (Ok json) = json_data json ≡ value
GivesBack value (Err NotJson) = ⊥
GivesBack value (Err (Fractional path)) = ⊥
GivesBack value (Err Memory) = ⊤

-- whoever reads a text that states a value is given that value
abbrev pub EachReadingGivesBack : Type 0
EachReadingGivesBack = (bytes : List ℕ) (value : JsonValue) → ReadsAs bytes value →
    (result : Result Json JsonErr) → Reads bytes result → GivesBack value result
