-- The keys of a value's objects are in byte order, found out value by value.
use Rattle.std.proofs.Common.{◌≡◌, ℕ, zero, suc, ◌+◌, ◌<◌, ◌≤◌, List, [], ◌∷◌, length, drop, get_or, refl, ap, subst, arith}
use Rattle.lf_sorted.specs.declared.map.Entry.{Entry}
use Rattle.lf_sorted.specs.Entries.{keys, text_cmp, Ascends}
use Rattle.std.specs.List.Sorted.{IsStrictlySortedBy}
use Rattle.lf_model.specs.declared.json.Json.{Json}
use Rattle.lf_model.specs.JsonBridge.{json_data, items_data, members_data}
use Rattle.lf_json.specs.ReadBack.{InKeyOrder, ItemsInKeyOrder, MembersInKeyOrder, member_keys}

item_at : (xs : List Json) (i : ℕ) (x : Json) → i < length xs → x ≡ get_or xs i x → InKeyOrder (json_data x) → ItemsInKeyOrder (items_data (drop (suc i) xs)) → ItemsInKeyOrder (items_data (drop i xs))
item_at [] i x within is here rest = absurd (omega arith)
item_at (y ∷ ys) zero x within is here rest = (subst (λ z. InKeyOrder (json_data z)) is here, rest)
item_at (y ∷ ys) (suc i) x within is here rest = item_at ys i x (omega arith) is here rest

pub item_in_order : (xs : List Json) (i : ℕ) (x : Json) → i < length xs → x ≡ get_or xs i x → (ItemsInKeyOrder (items_data (drop i xs)) → ItemsInKeyOrder (items_data xs)) → InKeyOrder (json_data x)
    → ItemsInKeyOrder (items_data (drop (i + 1) xs)) → ItemsInKeyOrder (items_data xs)
item_in_order xs i x within is whole here rest =
    let next : i + 1 ≡ suc i = omega arith in whole (item_at xs i x within is here (subst (λ k. ItemsInKeyOrder (items_data (drop k xs))) next rest))

member_at : (es : List (Entry Json)) (i : ℕ) (e : Entry Json) → i < length es → e ≡ get_or es i e → InKeyOrder (json_data e.value) → MembersInKeyOrder (members_data (drop (suc i) es)) → MembersInKeyOrder (members_data (drop i es))
member_at [] i e within is here rest = absurd (omega arith)
member_at (f ∷ fs) zero e within is here rest = (subst (λ (z : Entry Json). InKeyOrder (json_data z.value)) is here, rest)
member_at (f ∷ fs) (suc i) e within is here rest = member_at fs i e (omega arith) is here rest

pub member_in_order : (es : List (Entry Json)) (i : ℕ) (e : Entry Json) → i < length es → e ≡ get_or es i e → (MembersInKeyOrder (members_data (drop i es)) → MembersInKeyOrder (members_data es)) → InKeyOrder (json_data e.value)
    → MembersInKeyOrder (members_data (drop (i + 1) es)) → MembersInKeyOrder (members_data es)
member_in_order es i e within is whole here rest =
    let next : i + 1 ≡ suc i = omega arith in whole (member_at es i e within is here (subst (λ k. MembersInKeyOrder (members_data (drop k es))) next rest))

member_keys-keys : (es : List (Entry Json)) → keys es ≡ member_keys (members_data es)
member_keys-keys [] = refl
member_keys-keys (e ∷ es) = ap (λ ks. e.key ∷ ks) (member_keys-keys es)

pub keys_in_order : (es : List (Entry Json)) → Ascends es → IsStrictlySortedBy text_cmp (member_keys (members_data es))
keys_in_order es h = subst (IsStrictlySortedBy text_cmp) (member_keys-keys es) h

pub all_items_in_order : (xs : List Json) (i : ℕ) → length xs ≤ i → (ItemsInKeyOrder (items_data (drop i xs)) → ItemsInKeyOrder (items_data xs)) → ItemsInKeyOrder (items_data xs)
all_items_in_order xs i past whole = whole (nothing xs i past)
  where
    nothing : (xs : List Json) (i : ℕ) → length xs ≤ i → ItemsInKeyOrder (items_data (drop i xs))
    nothing [] zero past = tt
    nothing [] (suc i) past = tt
    nothing (y ∷ ys) zero past = absurd (omega arith)
    nothing (y ∷ ys) (suc i) past = nothing ys i (omega arith)

pub all_members_in_order : (es : List (Entry Json)) (i : ℕ) → length es ≤ i → (MembersInKeyOrder (members_data (drop i es)) → MembersInKeyOrder (members_data es)) → MembersInKeyOrder (members_data es)
all_members_in_order es i past whole = whole (nothing es i past)
  where
    nothing : (es : List (Entry Json)) (i : ℕ) → length es ≤ i → MembersInKeyOrder (members_data (drop i es))
    nothing [] zero past = tt
    nothing [] (suc i) past = tt
    nothing (f ∷ fs) zero past = absurd (omega arith)
    nothing (f ∷ fs) (suc i) past = nothing fs i (omega arith)
