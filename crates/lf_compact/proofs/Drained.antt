-- Groups that are taken out from the least key on.
use Rattle.std.proofs.Common.{◌≡◌, ℕ, List, [], ◌∷◌, ◌++◌, Bool, true, false, cond, Option, Some, None, refl, ap, sym, ◌∙◌, subst, map, nat_cmp, append_assoc, append-nil, Vec}
use Rattle.std.specs.Prelude.{option_map}
use Rattle.std.specs.List.{flat_map}
use Rattle.std.specs.List.Sorted.{IsStrictlySortedBy}
use Rattle.std.specs.Map.{lookup, keys_of as map_keys}
use Rattle.std.specs.Cmp.Lexicographic.{slice_cmp}
use Rattle.std.specs.BTreeMap.{is_at, IsOrdered}
use Rattle.std.specs.declared.alloc.Global.{Global}
use Rattle.def_documents.specs.Grouping.{grouped, keys_of, under}
use Rattle.lf_compact.specs.Groups.{if_any, Groups, Hold}
use Rattle.lf_compact.proofs.Entries.{same-entries}
use Rattle.lf_compact.proofs.Grouped.{parted-ordered, get-parted}

module _ {T D : Type 0} (read : T → D) where
  -- the entries of groups, read
  abbrev pub read_entries : List (List ℕ × Vec T Global) → List (List ℕ × List D)
  read_entries es = map (λ e. (e.0, map read e.1.items)) es

  keys-read : (es : List (List ℕ × Vec T Global)) → map_keys (read_entries es) ≡ map_keys es
  keys-read [] = refl
  keys-read (e ∷ es) = ap (λ l. e.0 ∷ l) (keys-read es)

  lookup-read : (test : List ℕ → Bool) (es : List (List ℕ × Vec T Global)) →
      lookup test (read_entries es) ≡ option_map (map read) (option_map (λ (v : Vec T Global). v.items) (lookup test es))
  lookup-read test [] = refl
  lookup-read test (e ∷ es) = go (test e.0) (lookup-read test es)
    where
      go : (b : Bool) → lookup test (read_entries es) ≡ option_map (map read) (option_map (λ (v : Vec T Global). v.items) (lookup test es))
          → cond b (Some (map read e.1.items)) (lookup test (read_entries es))
          ≡ option_map (map read) (option_map (λ (v : Vec T Global). v.items) (cond b (Some e.1) (lookup test es)))
      go true ih = refl
      go false ih = ih

  pub drained : (groups : Groups T) (entries : List (List ℕ × D)) → IsOrdered (slice_cmp nat_cmp) groups → Hold read groups entries
      → read_entries groups.entries ≡ grouped (λ xs. xs) entries
  drained groups entries ordered held =
      same-entries (read_entries groups.entries) (grouped (λ xs. xs) entries)
      (subst (IsStrictlySortedBy (slice_cmp nat_cmp)) (sym (keys-read groups.entries)) ordered)
      (parted-ordered entries)
      (λ q. lookup-read (is_at (slice_cmp nat_cmp q)) groups.entries ∙ held q ∙ sym (get-parted entries q))

-- the groups with what they come to
pub joined-groups : {D B : Type 0} (join : List D → B) (entries : List (List ℕ × D)) →
    map {B = List ℕ × B} (λ e. (e.0, join e.1)) (grouped (λ xs. xs) entries) ≡ grouped join entries
joined-groups {D} {B} join entries = go (keys_of entries)
  where
    go : (ks : List (List ℕ)) →
        map {B = List ℕ × B} (λ e. (e.0, join e.1)) (map {B = List ℕ × List D} (λ key. (key, under key entries)) ks)
        ≡ map {B = List ℕ × B} (λ key. (key, join (under key entries))) ks
    go [] = refl
    go (k ∷ ks) = ap (λ l. (k, join (under k entries)) ∷ l) (go ks)

-- ---- what is put into members from groups

module _ {T D B : Type 0} (read : T → D) where
  flat-read : (G : List ℕ × List D → List B) (es : List (List ℕ × Vec T Global)) →
      flat_map (λ e. G (e.0, map read e.1.items)) es ≡ flat_map G (read_entries read es)
  flat-read G [] = refl
  flat-read G (e ∷ es) = ap (λ l. G (e.0, map read e.1.items) ++ l) (flat-read G es)

  -- entry after entry
  pub flat-drained : (G : List ℕ × List D → List B) (groups : Groups T) (entries : List (List ℕ × D)) → IsOrdered (slice_cmp nat_cmp) groups
      → Hold read groups entries → flat_map (λ e. G (e.0, map read e.1.items)) groups.entries ≡ flat_map G (grouped (λ xs. xs) entries)
  flat-drained G groups entries ordered held = flat-read G groups.entries ∙ ap (flat_map G) (drained read groups entries ordered held)

-- the one entry of a key
abbrev single : {D B : Type 0} → (List D → B) → List ℕ × List D → List (List ℕ × B)
single join e = (e.0, join e.1) ∷ []

singles : {D B : Type 0} (join : List D → B) (es : List (List ℕ × List D)) →
    flat_map (single join) es ≡ map {B = List ℕ × B} (λ e. (e.0, join e.1)) es
singles join [] = refl
singles join (e ∷ es) = ap (λ l. (e.0, join e.1) ∷ l) (singles join es)

-- one entry for each key
pub each-drained : {T D B : Type 0} (read : T → D) (join : List D → B) (groups : Groups T) (entries : List (List ℕ × D))
    → IsOrdered (slice_cmp nat_cmp) groups → Hold read groups entries
    → flat_map (λ e. single join (e.0, map read e.1.items)) groups.entries ≡ grouped join entries
each-drained read join groups entries ordered held =
    flat-drained read (single join) groups entries ordered held
    ∙ singles join (grouped (λ xs. xs) entries)
    ∙ joined-groups join entries
