-- Lists that are gathered item by item, and what is left of items and members.
use Rattle.std.proofs.Common.{◌≡◌, ℕ, zero, suc, ◌+◌, ◌<◌, ◌≤◌, List, [], ◌∷◌, ◌++◌, length, drop, get_or, Option, Some, None, Result, Ok, Err, refl, sym, ap, arith}
use Rattle.lf_sorted.specs.declared.map.Entry.{Entry}
use Rattle.lf_model.specs.declared.json.Json.{Json}
use Rattle.lf_model.specs.declared.error.LdError.{LdError}
use Rattle.lf_model.specs.JsonData.{item, no_items, member, no_members}
use Rattle.lf_model.specs.JsonBridge.{json_data, items_data, members_data}

-- the items that were gathered, before those that are to come
abbrev pub before : {A : Type 0} → List A → Option (List A) → Option (List A)
before done (Some rest) = Some (done ++ rest)
before done None = None

pub before-nothing : {A : Type 0} (rest : Option (List A)) → before [] rest ≡ rest
before-nothing (Some rest) = refl
before-nothing None = refl

items_from : (xs : List Json) (i : ℕ) (x : Json) → i < length xs → x ≡ get_or xs i x → items_data (drop i xs) ≡ item (json_data x) (items_data (drop (suc i) xs))
items_from [] i x within is = absurd (omega arith)
items_from (y ∷ ys) zero x within is = ap (λ z. item (json_data z) (items_data ys)) (sym is)
items_from (y ∷ ys) (suc i) x within is = items_from ys i x (omega arith) is

pub items_at : (xs : List Json) (i : ℕ) (x : Json) → i < length xs → x ≡ get_or xs i x → items_data (drop i xs) ≡ item (json_data x) (items_data (drop (i + 1) xs))
items_at xs i x within is = let next : i + 1 ≡ suc i = omega arith in rw next (items_from xs i x within is)

pub items_end : (xs : List Json) (i : ℕ) → length xs ≤ i → items_data (drop i xs) ≡ no_items
items_end [] zero past = refl
items_end [] (suc i) past = refl
items_end (y ∷ ys) zero past = absurd (omega arith)
items_end (y ∷ ys) (suc i) past = items_end ys i (omega arith)

members_from : (es : List (Entry Json)) (i : ℕ) (e : Entry Json) → i < length es → e ≡ get_or es i e → members_data (drop i es) ≡ member e.key (json_data e.value) (members_data (drop (suc i) es))
members_from [] i e within is = absurd (omega arith)
members_from (f ∷ fs) zero e within is = ap (λ (z : Entry Json). member z.key (json_data z.value) (members_data fs)) (sym is)
members_from (f ∷ fs) (suc i) e within is = members_from fs i e (omega arith) is

pub members_at : (es : List (Entry Json)) (i : ℕ) (e : Entry Json) → i < length es → e ≡ get_or es i e → members_data (drop i es) ≡ member e.key (json_data e.value) (members_data (drop (i + 1) es))
members_at es i e within is = let next : i + 1 ≡ suc i = omega arith in rw next (members_from es i e within is)

pub members_end : (es : List (Entry Json)) (i : ℕ) → length es ≤ i → members_data (drop i es) ≡ no_members
members_end [] zero past = refl
members_end [] (suc i) past = refl
members_end (f ∷ fs) zero past = absurd (omega arith)
members_end (f ∷ fs) (suc i) past = members_end fs i (omega arith)

-- the same where gathering may fail
abbrev pub behind : {A : Type 0} → List A → Result (List A) LdError → Result (List A) LdError
behind done (Ok rest) = Ok (done ++ rest)
behind done (Err e) = Err e

pub behind-nothing : {A : Type 0} (rest : Result (List A) LdError) → behind [] rest ≡ rest
behind-nothing (Ok rest) = refl
behind-nothing (Err e) = refl

pub no_item_left : (xs : List Json) → length xs ≡ 0 → items_data xs ≡ no_items
no_item_left [] len = refl
no_item_left (y ∷ ys) len = absurd (omega arith)

pub one_item : (xs : List Json) (x : Json) → length xs ≡ 1 → x ≡ get_or xs 0 x → items_data xs ≡ item (json_data x) no_items
one_item [] x len is = absurd (omega arith)
one_item (y ∷ []) x len is = ap (λ z. item (json_data z) no_items) (sym is)
one_item (y ∷ z ∷ zs) x len is = absurd (omega arith)
