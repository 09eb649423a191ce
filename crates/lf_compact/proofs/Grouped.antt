-- The groups of entries, key by key, are those of the definition.
use Rattle.std.proofs.Common.{◌≡◌, ℕ, Bool, true, false, ◌||◌, cond, List, [], ◌∷◌, ◌++◌, Option, Some, None, refl, ap, sym, ◌∙◌, subst, map, nat_cmp, Ordering, Less, Equal, Greater}
use Rattle.std.specs.Prelude.{filter, option_map, unwrap_or, is_some}
use Rattle.std.specs.List.{list_any}
use Rattle.std.specs.List.Sorted.{IsStrictlySortedBy}
use Rattle.std.specs.Map.{lookup, keys_of as map_keys}
use Rattle.std.specs.Cmp.Lexicographic.{slice_cmp}
use Rattle.std.specs.BTreeMap.{is_at}
use Rattle.std.proofs.lemmas.Cmp.{nat_list_eq_equiv}
use Rattle.std.proofs.lemmas.List.Elements.{filter-append}
use Rattle.std.proofs.lemmas.List.{map-append}
use Rattle.std.proofs.lemmas.Map.Lookups.{exact_bytes}
use Rattle.std.proofs.lemmas.Map.Text.{is_eq-slice_cmp}
use Rattle.std.proofs.lemmas.Slice.Eq.{bytes_eq-Decides}
use Rattle.lf_rdf.specs.Equality.{text_eq}
use Rattle.def_documents.specs.Grouping.{grouped, keys_of, put_key, under}
use Rattle.def_documents.proofs.Keys.{keys-ascend}
use Rattle.lf_compact.specs.Groups.{list_at, if_any, Groups, Hold}

-- ---- one entry more

pub under-more : {D : Type 0} (q key : List ℕ) (value : D) (entries : List (List ℕ × D)) →
    under q (entries ++ (key, value) ∷ []) ≡ under q entries ++ cond (text_eq key q) (value ∷ []) []
under-more {D} q key value entries =
    ap (map (λ e. e.1)) (filter-append (λ e. text_eq e.0 q) entries ((key, value) ∷ []))
    ∙ map-append (λ e. e.1) (filter (λ e. text_eq e.0 q) entries) (cond (text_eq key q) ((key, value) ∷ []) [])
    ∙ ap (λ l. under q entries ++ l) (go (text_eq key q))
  where
    go : (b : Bool) → map (λ (e : List ℕ × D). e.1) (cond b ((key, value) ∷ []) []) ≡ cond b (value ∷ []) []
    go true = refl
    go false = refl

append-none : {D : Type 0} (xs : List D) → xs ++ [] ≡ xs
append-none [] = refl
append-none (x ∷ xs) = ap (λ l. x ∷ l) (append-none xs)

some-more : {D : Type 0} (xs : List D) (value : D) → Some (xs ++ value ∷ []) ≡ if_any (xs ++ value ∷ [])
some-more [] value = refl
some-more (x ∷ xs) value = refl

or-none : {D : Type 0} (xs : List D) → unwrap_or (if_any xs) [] ≡ xs
or-none [] = refl
or-none (x ∷ xs) = refl

map-or : {T D : Type 0} (read : T → D) (o : Option (List T)) → map read (unwrap_or o []) ≡ unwrap_or (option_map (map read) o) []
map-or read None = refl
map-or read (Some xs) = refl

pub hold-more : {T D : Type 0} (read : T → D) (before after : Groups T) (key : List ℕ) (value : T) (entries : List (List ℕ × D))
    → Hold read before entries
    → ((q : List ℕ) → list_at after q ≡ cond (text_eq key q) (Some (unwrap_or (list_at before q) [] ++ value ∷ [])) (list_at before q))
    → Hold read after (entries ++ (key, read value) ∷ [])
hold-more {T} {D} read before after key value entries held added q =
    ap (option_map (map read)) (added q)
    ∙ go (text_eq key q)
    ∙ ap if_any (sym (under-more q key (read value) entries))
  where
    go : (b : Bool) → option_map (map read) (cond b (Some (unwrap_or (list_at before q) [] ++ value ∷ [])) (list_at before q))
        ≡ if_any (under q entries ++ cond b (read value ∷ []) [])
    go true =
        ap Some
        (map-append read (unwrap_or (list_at before q) []) (value ∷ [])
        ∙ ap (λ l. l ++ read value ∷ []) (map-or read (list_at before q) ∙ ap (λ o. unwrap_or o []) (held q) ∙ or-none (under q entries)))
        ∙ some-more (under q entries) (read value)
    go false = held q ∙ ap if_any (sym (append-none (under q entries)))

-- ---- all keys in order

has : {D : Type 0} → List D → Bool
has [] = false
has (x ∷ xs) = true

put-any : (q key : List ℕ) (ks : List (List ℕ)) → list_any (λ k. text_eq k q) (put_key key ks) ≡ (text_eq key q || list_any (λ k. text_eq k q) ks)
put-any q key [] = refl
put-any q key (other ∷ rest) = go (slice_cmp nat_cmp key other) refl (put-any q key rest)
  where
    twice : (a b : Bool) → (a || b) ≡ (a || (a || b))
    twice true b = refl
    twice false b = refl

    swap : (a b c : Bool) → (b || (a || c)) ≡ (a || (b || c))
    swap true true c = refl
    swap true false c = refl
    swap false b c = refl

    placed : Ordering → List (List ℕ)
    placed o = elim o [ Less ↦ key ∷ other ∷ rest | Equal ↦ other ∷ rest | Greater ↦ other ∷ put_key key rest ]

    go : (o : Ordering) → slice_cmp nat_cmp key other ≡ o
        → list_any (λ k. text_eq k q) (put_key key rest) ≡ (text_eq key q || list_any (λ k. text_eq k q) rest)
        → list_any (λ k. text_eq k q) (placed o) ≡ (text_eq key q || (text_eq other q || list_any (λ k. text_eq k q) rest))
    go Less e ih = refl
    go Equal e ih =
        let same : key ≡ other = exact_bytes key other e in
        subst (λ w. (text_eq w q || list_any (λ k. text_eq k q) rest) ≡ (text_eq key q || (text_eq w q || list_any (λ k. text_eq k q) rest))) same
        (twice (text_eq key q) (list_any (λ k. text_eq k q) rest))
    go Greater e ih = ap (λ b. text_eq other q || b) ih ∙ swap (text_eq key q) (text_eq other q) (list_any (λ k. text_eq k q) rest)

-- the keys of what is made key by key
keys-mapped : {X : Type 0} (g : List ℕ → X) (ks : List (List ℕ)) → map_keys (map (λ k. (k, g k)) ks) ≡ ks
keys-mapped g [] = refl
keys-mapped g (k ∷ ks) = ap (λ l. k ∷ l) (keys-mapped g ks)

module _ {D : Type 0} where
  keys-any : (q : List ℕ) (entries : List (List ℕ × D)) → list_any (λ k. text_eq k q) (keys_of entries) ≡ is_some (if_any (under q entries))
  keys-any q [] = refl
  keys-any q (first ∷ rest) = put-any q first.0 (keys_of rest) ∙ ap (λ b. text_eq first.0 q || b) (keys-any q rest) ∙ go (text_eq first.0 q)
    where
      go : (b : Bool) → (b || is_some (if_any (under q rest))) ≡ is_some (if_any (map (λ e. e.1) (cond b (first ∷ filter (λ e. text_eq e.0 q) rest) (filter (λ e. text_eq e.0 q) rest))))
      go true = refl
      go false = refl

  lookup-keys : (q : List ℕ) (g : List ℕ → List D) (ks : List (List ℕ)) →
      lookup (is_at (slice_cmp nat_cmp q)) (map (λ k. (k, g k)) ks) ≡ cond (list_any (λ k. text_eq k q) ks) (Some (g q)) None
  lookup-keys q g [] = refl
  lookup-keys q g (k ∷ ks) =
      ap (λ b. cond b (Some (g k)) (lookup (is_at (slice_cmp nat_cmp q)) (map (λ k. (k, g k)) ks))) (is_eq-slice_cmp q k ∙ nat_list_eq_equiv.symm q k)
      ∙ go (text_eq k q) refl (lookup-keys q g ks)
    where
      go : (b : Bool) → text_eq k q ≡ b
          → lookup (is_at (slice_cmp nat_cmp q)) (map (λ k. (k, g k)) ks) ≡ cond (list_any (λ k. text_eq k q) ks) (Some (g q)) None
          → cond b (Some (g k)) (lookup (is_at (slice_cmp nat_cmp q)) (map (λ k. (k, g k)) ks))
          ≡ cond (b || list_any (λ k. text_eq k q) ks) (Some (g q)) None
      go true e ih = ap (λ w. Some (g w)) ((bytes_eq-Decides k q).0 e)
      go false e ih = ih

  found-any : (xs : List D) → cond (is_some (if_any xs)) (Some xs) None ≡ if_any xs
  found-any [] = refl
  found-any (x ∷ xs) = refl

  pub get-parted : (entries : List (List ℕ × D)) (q : List ℕ) → lookup (is_at (slice_cmp nat_cmp q)) (grouped (λ xs. xs) entries) ≡ if_any (under q entries)
  get-parted entries q =
      lookup-keys q (λ k. under k entries) (keys_of entries)
      ∙ ap (λ b. cond b (Some (under q entries)) None) (keys-any q entries)
      ∙ found-any (under q entries)

  pub parted-ordered : (entries : List (List ℕ × D)) → IsStrictlySortedBy (slice_cmp nat_cmp) (map_keys (grouped (λ xs. xs) entries))
  parted-ordered entries =
      subst (IsStrictlySortedBy (slice_cmp nat_cmp)) (sym (keys-mapped (λ k. under k entries) (keys_of entries))) (keys-ascend entries)
