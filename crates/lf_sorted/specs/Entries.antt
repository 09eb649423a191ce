-- Entries of a map in byte order of their keys.
use Rattle.std.specs.Prelude.{ℕ, nat_eq, List, [], ◌∷◌, map, Option, Some, None, if◌then◌else◌, refl}
use Rattle.std.specs.Cmp.Lexicographic.{pointwise, slice_cmp}
use Rattle.std.specs.Coded.{Coded, code_by, coded×, coded_list, coded_ℕ}
use Rattle.std.specs.List.Sorted.{IsStrictlySortedBy}
use Rattle.std.specs.Ordering.{nat_cmp, match_ordering}
use Rattle.std.specs.declared.cmp.Ordering.{Ordering}
use Rattle.lf_sorted.specs.declared.map.Entry.{Entry}

-- the order of UTF-8 bytes
abbrev pub text_cmp : List ℕ → List ℕ → Ordering
text_cmp = slice_cmp nat_cmp

-- an entry of a key and a value
abbrev pub entry : {T : Type 0} → List ℕ → T → Entry T
entry key value = record { key = key; value = value }

-- the keys, in order
abbrev pub keys : {T : Type 0} → List (Entry T) → List (List ℕ)
keys = map (λ e. e.key)

-- each key is below all later keys
abbrev pub Ascends : {T : Type 0} → List (Entry T) → Type 0
Ascends entries = IsStrictlySortedBy text_cmp (keys entries)

-- the entries with the value at the key: in the place of an older value, or before the first greater key
abbrev pub put_entry : {T : Type 0} → List ℕ → T → List (Entry T) → List (Entry T)
put_entry key value [] = entry key value ∷ []
put_entry key value (first ∷ rest) =
    match_ordering (text_cmp key first.key)
    (entry key value ∷ first ∷ rest)
    (entry key value ∷ rest)
    (first ∷ put_entry key value rest)

-- the value at a key
abbrev pub value_at : {T : Type 0} → List ℕ → List (Entry T) → Option T
value_at key [] = None
value_at key (first ∷ rest) = if pointwise nat_eq key first.key then Some first.value else value_at key rest

-- an entry is stored as the pair of its key and its value
abbrev pub entry_code : {T : Type 0} → Coded T → Coded (Entry T)
entry_code {T} value_code =
    code_by (List ℕ × T) (coded× (coded_list coded_ℕ) value_code) (λ e. (e.key, e.value)) (λ p. entry p.0 p.1) (λ _. refl)
