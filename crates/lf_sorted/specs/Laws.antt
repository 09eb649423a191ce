-- What a put does to a map: it keeps the order, its value is found, and every other key keeps its value.
use Rattle.std.specs.Prelude.{◌≡◌, ◌≢◌, ℕ, List, Some}
use Rattle.lf_sorted.specs.declared.map.Entry.{Entry}
use Rattle.lf_sorted.specs.Entries.{Ascends, put_entry, value_at}

-- entries in order stay so
abbrev pub PutKeepsOrder : Type 0 → Type 0
PutKeepsOrder T = (key : List ℕ) (value : T) (entries : List (Entry T)) → Ascends entries → Ascends (put_entry key value entries)

-- at the key stands the value
abbrev pub PutIsFound : Type 0 → Type 0
PutIsFound T = (key : List ℕ) (value : T) (entries : List (Entry T)) → value_at key (put_entry key value entries) ≡ Some value

-- at every other key stands what stood there
abbrev pub PutKeepsOthers : Type 0 → Type 0
PutKeepsOthers T =
    (other key : List ℕ) (value : T) (entries : List (Entry T)) → other ≢ key
    → value_at other (put_entry key value entries) ≡ value_at other entries
