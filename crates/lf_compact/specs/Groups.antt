-- What comes under the keys of a map.
use Rattle.std.specs.Prelude.{◌≡◌, List, [], ◌∷◌, ◌++◌, ℕ, Option, Some, None, Vec, map, option_map}
use Rattle.std.specs.Ordering.{nat_cmp}
use Rattle.std.specs.Cmp.Lexicographic.{slice_cmp}
use Rattle.std.specs.BTreeMap.{BTreeMap, get}
use Rattle.std.specs.declared.alloc.Global.{Global}
use Rattle.def_documents.specs.Grouping.{under}

abbrev pub Groups : Type 0 → Type 0
Groups T = BTreeMap (List ℕ) (Vec T Global)

-- what came under a key, where anything did
abbrev pub list_at : {T : Type 0} → Groups T → List ℕ → Option (List T)
list_at groups key = option_map (λ list. list.items) (get (slice_cmp nat_cmp) groups key)

abbrev pub if_any : {T : Type 0} → List T → Option (List T)
if_any [] = None
if_any (first ∷ rest) = Some (first ∷ rest)

-- the groups hold these entries, read by a function
abbrev pub Hold : {T D : Type 0} → (T → D) → Groups T → List (List ℕ × D) → Type 0
Hold read groups entries =
    (key : List ℕ) → option_map (map read) (list_at groups key) ≡ if_any (under key entries)

-- the groups hold these entries beside those before
abbrev pub PutsAll : {T D : Type 0} → (T → D) → Groups T → Groups T → List (List ℕ × D) → Type 0
PutsAll {T} {D} read before after added =
    (entries : List (List ℕ × D)) → Hold read before entries → Hold read after (entries ++ added)
