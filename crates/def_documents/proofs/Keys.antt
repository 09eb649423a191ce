-- The keys of a map stand in order, and are those of its entries.
use Rattle.std.proofs.Common.{◌≡◌, ◌↔◌, ℕ, List, [], ◌∷◌, refl, sym, ap, subst, ◌∙◌, ◌⊎◌, inl, inr, map}
use Rattle.std.specs.List.{Contains, AllByRecursion}
use Rattle.std.specs.List.Sorted.{IsStrictlySortedBy}
use Rattle.std.specs.Ordering.{nat_cmp, ordering_reverse, is_eq}
use Rattle.std.specs.declared.cmp.Ordering.{Ordering}
use Rattle.std.specs.declared.cmp.Ordering.TheVariants.{Less, Equal, Greater}
use Rattle.std.specs.Cmp.Lexicographic.{slice_cmp, bytes_decides, texts_ties}
use Rattle.std.proofs.lemmas.Cmp.{nat_list_cmp_total}
use Rattle.def_selection.proofs.Members.{first_in, rest_in, in_cases, none_in}
use Rattle.def_documents.specs.Grouping.{put_key, keys_of}

abbrev order : List ℕ → List ℕ → Ordering
order = slice_cmp nat_cmp

-- equal in the order is equal
tied-same : (a b : List ℕ) → order a b ≡ Equal → a ≡ b
tied-same a b e = (bytes_decides a b).0 (texts_ties a b ∙ ap is_eq e)

-- a key before another, in its place, or further on
abbrev placed : Ordering → List ℕ → List ℕ → List (List ℕ) → List (List ℕ) → List (List ℕ)
placed o key other rest further = elim o [ Less ↦ key ∷ other ∷ rest | Equal ↦ other ∷ rest | Greater ↦ other ∷ further ]

-- what holds of the key and of all others
all-put : (P : List ℕ → Type 0) (key : List ℕ) (ks : List (List ℕ)) → P key → AllByRecursion P ks → AllByRecursion P (put_key key ks)
all-put P key [] here all = (here, all)
all-put P key (other ∷ rest) here all = go (order key other) (all-put P key rest here all.1)
  where
    go : (o : Ordering) → AllByRecursion P (put_key key rest) → AllByRecursion P (placed o key other rest (put_key key rest))
    go Less ih = (here, all)
    go Equal ih = all
    go Greater ih = (all.0, ih)

all-weaker : (P Q : List ℕ → Type 0) (ks : List (List ℕ)) → ((k : List ℕ) → P k → Q k) → AllByRecursion P ks → AllByRecursion Q ks
all-weaker P Q [] weaken all = tt
all-weaker P Q (k ∷ rest) weaken all = (weaken k all.0, all-weaker P Q rest weaken all.1)

sorted-put : (key : List ℕ) (ks : List (List ℕ)) → IsStrictlySortedBy order ks → IsStrictlySortedBy order (put_key key ks)
unfolding IsStrictlySortedBy
sorted-put key [] sorted = (tt, tt)
sorted-put key (other ∷ rest) sorted = go (order key other) refl (sorted-put key rest sorted.1)
  where
    go : (o : Ordering) → order key other ≡ o → IsStrictlySortedBy order (put_key key rest) → IsStrictlySortedBy order (placed o key other rest (put_key key rest))
    go Less at ih = (
      (at, all-weaker (λ k. order other k ≡ Less) (λ k. order key k ≡ Less) rest (λ k less. nat_list_cmp_total.trans key other k at less) sorted.0),
      sorted,
    )
    go Equal at ih = sorted
    go Greater at ih =
        (all-put (λ k. order other k ≡ Less) key rest (nat_list_cmp_total.antisymm other key ∙ ap ordering_reverse at) sorted.0, ih)

pub keys-ascend : {A : Type 0} (entries : List (List ℕ × A)) → IsStrictlySortedBy order (keys_of entries)
unfolding IsStrictlySortedBy
keys-ascend [] = tt
keys-ascend (first ∷ rest) = sorted-put first.0 (keys_of rest) (keys-ascend rest)

put-here : (key : List ℕ) (ks : List (List ℕ)) → Contains (put_key key ks) key
put-here key [] = first_in key []
put-here key (other ∷ rest) = go (order key other) refl (put-here key rest)
  where
    go : (o : Ordering) → order key other ≡ o → Contains (put_key key rest) key → Contains (placed o key other rest (put_key key rest)) key
    go Less at ih = first_in key (other ∷ rest)
    go Equal at ih = subst (λ k. Contains (other ∷ rest) k) (sym (tied-same key other at)) (first_in other rest)
    go Greater at ih = rest_in other (put_key key rest) key ih

put-there : (key : List ℕ) (ks : List (List ℕ)) (k : List ℕ) → Contains ks k → Contains (put_key key ks) k
put-there key [] k held = absurd (none_in k held)
put-there key (other ∷ rest) k held = go (order key other) (λ more. put-there key rest k more)
  where
    go : (o : Ordering) → (Contains rest k → Contains (put_key key rest) k) → Contains (placed o key other rest (put_key key rest)) k
    go Less ih = rest_in key (other ∷ rest) k held
    go Equal ih = held
    go Greater ih =
        elim (in_cases other rest k held) [
          | inl same ↦ subst (λ x. Contains (other ∷ put_key key rest) x) same (first_in other (put_key key rest))
          | inr more ↦ rest_in other (put_key key rest) k (ih more)
        ]

put-cases : (key : List ℕ) (ks : List (List ℕ)) (k : List ℕ) → Contains (put_key key ks) k → (key ≡ k) ⊎ Contains ks k
put-cases key [] k held = in_cases key [] k held
put-cases key (other ∷ rest) k held = go (order key other) held (put-cases key rest k)
  where
    further : (key ≡ k) ⊎ Contains rest k → (key ≡ k) ⊎ Contains (other ∷ rest) k
    further (inl same) = inl same
    further (inr more) = inr (rest_in other rest k more)

    go : (o : Ordering) → Contains (placed o key other rest (put_key key rest)) k → (Contains (put_key key rest) k → (key ≡ k) ⊎ Contains rest k) → (key ≡ k) ⊎ Contains (other ∷ rest) k
    go Less held' ih = in_cases key (other ∷ rest) k held'
    go Equal held' ih = inr held'
    go Greater held' ih =
        elim (in_cases other (put_key key rest) k held') [
          | inl same ↦ inr (subst (λ x. Contains (other ∷ rest) x) same (first_in other rest))
          | inr more ↦ further (ih more)
        ]

module _ {A : Type 0} where
  keys-from : (entries : List (List ℕ × A)) (key : List ℕ) → Contains (keys_of entries) key → Contains (map (λ e. e.0) entries) key
  keys-from [] key held = absurd (none_in key held)
  keys-from (first ∷ rest) key held = go (put-cases first.0 (keys_of rest) key held) (keys-from rest key)
    where
      go : (first.0 ≡ key) ⊎ Contains (keys_of rest) key → (Contains (keys_of rest) key → Contains (map (λ e. e.0) rest) key) → Contains (first.0 ∷ map (λ e. e.0) rest) key
      go (inl same) ih = subst (λ x. Contains (first.0 ∷ map (λ e. e.0) rest) x) same (first_in first.0 (map (λ e. e.0) rest))
      go (inr more) ih = rest_in first.0 (map (λ e. e.0) rest) key (ih more)

  keys-to : (entries : List (List ℕ × A)) (key : List ℕ) → Contains (map (λ e. e.0) entries) key → Contains (keys_of entries) key
  keys-to [] key held = absurd (none_in key held)
  keys-to (first ∷ rest) key held = go (in_cases first.0 (map (λ e. e.0) rest) key held) (keys-to rest key)
    where
      go : (first.0 ≡ key) ⊎ Contains (map (λ e. e.0) rest) key → (Contains (map (λ e. e.0) rest) key → Contains (keys_of rest) key) → Contains (put_key first.0 (keys_of rest)) key
      go (inl same) ih = subst (λ x. Contains (put_key first.0 (keys_of rest)) x) same (put-here first.0 (keys_of rest))
      go (inr more) ih = put-there first.0 (keys_of rest) key (ih more)

  pub keys-entries : (entries : List (List ℕ × A)) (key : List ℕ) → Contains (keys_of entries) key ↔ Contains (map (λ e. e.0) entries) key
  keys-entries entries key = (keys-from entries key, keys-to entries key)
