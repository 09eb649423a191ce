-- JSON values as data that definitions match on (RFC 8259, section 3).
use Rattle.std.specs.Prelude.{ℕ, ℤ, Bool, List, [], ◌∷◌}

-- a whole number lies from -2^63 to 2^64 - 1; any other number is a fraction, and its value is not kept
mutual
  pub data JsonValue : Type 0 where
    null : JsonValue
    truth : Bool → JsonValue
    whole : ℤ → JsonValue
    fraction : JsonValue
    text : List ℕ → JsonValue
    array : JsonItems → JsonValue
    object : JsonMembers → JsonValue

  -- the values of an array
  pub data JsonItems : Type 0 where
    no_items : JsonItems
    item : JsonValue → JsonItems → JsonItems

  -- the members of an object: a key, its value and the rest, in byte order of the keys without repeats
  pub data JsonMembers : Type 0 where
    no_members : JsonMembers
    member : List ℕ → JsonValue → JsonMembers → JsonMembers

-- an array's values from a list
abbrev pub items_of : List JsonValue → JsonItems
items_of [] = no_items
items_of (value ∷ rest) = item value (items_of rest)

-- an array's values as a list
abbrev pub items_list : JsonItems → List JsonValue
items_list no_items = []
items_list (item value rest) = value ∷ items_list rest

-- an object's members from a list of keys and values
abbrev pub members_of : List (List ℕ × JsonValue) → JsonMembers
members_of [] = no_members
members_of (entry ∷ rest) = member entry.0 entry.1 (members_of rest)

-- an object's members as a list of keys and values
abbrev pub members_list : JsonMembers → List (List ℕ × JsonValue)
members_list no_members = []
members_list (member key value rest) = (key, value) ∷ members_list rest
