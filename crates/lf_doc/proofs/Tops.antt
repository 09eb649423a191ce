-- A map with one entry more is what the definition makes of its entries.
use Rattle.std.proofs.Common.{◌≡◌, ℕ, Bool, true, false, cond, List, [], ◌∷◌, Option, Some, None, Result, Ok, Err, IfOk, refl, ap, sym, subst, ◌∙◌, map, nat_cmp, is_eq}
use Rattle.std.specs.Prelude.{option_map}
use Rattle.std.specs.Cmp.Lexicographic.{slice_cmp}
use Rattle.std.specs.declared.cmp.Ordering.TheVariants.{Less}
use Rattle.std.specs.List.{AllByRecursion}
use Rattle.std.specs.List.Sorted.{IsStrictlySortedBy}
use Rattle.std.specs.Map.{lookup, keys_of as map_keys}
use Rattle.std.specs.BTreeMap.{is_at}
use Rattle.std.proofs.lemmas.Cmp.{nat_list_eq_equiv}
use Rattle.std.proofs.lemmas.Map.Text.{is_eq-slice_cmp}
use Rattle.std.proofs.lemmas.Slice.Eq.{bytes_eq-Decides}
use Rattle.lf_base.specs.declared.memory.Memory.{Memory}
use Rattle.lf_rdf.specs.Equality.{text_eq}
use Rattle.lf_sorted.specs.declared.map.Entry.{Entry}
use Rattle.lf_sorted.specs.Entries.{Ascends, keys, put_entry, value_at}
use Rattle.lf_sorted.proofs.EntriesLemmas.{ascends_put, value_elsewhere, value_put}
use Rattle.lf_model.specs.declared.json.Json.{Json}
use Rattle.lf_model.specs.JsonData.{JsonValue, member, members_list, members_of, object}
use Rattle.lf_model.specs.JsonBridge.{json_data, members_data}
use Rattle.def_documents.specs.Grouping.{grouped, keys_of, object_of, together, under}
use Rattle.def_documents.proofs.Keys.{keys-ascend}
use Rattle.lf_compact.specs.Groups.{if_any}
use Rattle.lf_compact.specs.Members.{Hold, Members}
use Rattle.lf_compact.proofs.Entries.{same-entries}
use Rattle.lf_compact.proofs.Grouped.{get-parted}

-- ---- entries as the definition sees them

abbrev pub seen : List (Entry Json) → List (List ℕ × JsonValue)
seen es = members_list (members_data es)

pub members-back : (es : List (Entry Json)) → members_of (seen es) ≡ members_data es
members-back [] = refl
members-back (e ∷ es) = ap (member e.key (json_data e.value)) (members-back es)

pub keys-seen : (es : List (Entry Json)) → map_keys (seen es) ≡ keys es
keys-seen [] = refl
keys-seen (e ∷ es) = ap (λ ks. e.key ∷ ks) (keys-seen es)

-- ---- what stands under a key

abbrev pub alone : Option Json → List JsonValue
alone None = []
alone (Some value) = json_data value ∷ []

-- a key below all others stands nowhere among them
below-all : (key : List ℕ) (es : List (Entry Json)) → AllByRecursion (λ k. slice_cmp nat_cmp key k ≡ Less) (keys es) → under key (seen es) ≡ []
below-all key [] all = refl
below-all key (e ∷ es) all = rw apart (below-all key es all.1)
  where
    apart : text_eq e.key key ≡ false
    apart = nat_list_eq_equiv.symm e.key key ∙ sym (is_eq-slice_cmp key e.key) ∙ ap is_eq all.0

pub under-is : (key : List ℕ) (es : List (Entry Json)) → Ascends es → under key (seen es) ≡ alone (value_at key es)
unfolding IsStrictlySortedBy
under-is key [] ascends = refl
under-is key (e ∷ es) ascends = go (text_eq key e.key) refl (under-is key es ascends.1)
  where
    turned : text_eq e.key key ≡ text_eq key e.key
    turned = nat_list_eq_equiv.symm e.key key

    go : (b : Bool) → text_eq key e.key ≡ b → under key (seen es) ≡ alone (value_at key es)
        → under key (seen (e ∷ es)) ≡ alone (cond b (Some e.value) (value_at key es))
    go true same ih =
        let k : key ≡ e.key = (bytes_eq-Decides key e.key).0 same in
        rw (turned ∙ same) (ap (λ l. json_data e.value ∷ l) (subst (λ w. under w (seen es) ≡ []) (sym k) (below-all e.key es ascends.0)))
    go false apart ih = rw (turned ∙ apart) ih

-- what is found at a key
found-at : (key : List ℕ) (es : List (Entry Json)) → lookup (is_at (slice_cmp nat_cmp key)) (seen es) ≡ option_map json_data (value_at key es)
found-at key [] = refl
found-at key (e ∷ es) = rw (is_eq-slice_cmp key e.key) (go (text_eq key e.key) (found-at key es))
  where
    go : (b : Bool) → lookup (is_at (slice_cmp nat_cmp key)) (seen es) ≡ option_map json_data (value_at key es)
        → cond b (Some (json_data e.value)) (lookup (is_at (slice_cmp nat_cmp key)) (seen es)) ≡ option_map json_data (cond b (Some e.value) (value_at key es))
    go true ih = refl
    go false ih = ih

-- ---- the groups, each with what it comes to

abbrev with_together : List (List ℕ × List JsonValue) → List (List ℕ × JsonValue)
with_together gs = map (λ g. (g.0, together g.1)) gs

lookup-together : (test : List ℕ → Bool) (gs : List (List ℕ × List JsonValue)) → lookup test (with_together gs) ≡ option_map together (lookup test gs)
lookup-together test [] = refl
lookup-together test (g ∷ gs) = go (test g.0) (lookup-together test gs)
  where
    go : (b : Bool) → lookup test (with_together gs) ≡ option_map together (lookup test gs)
        → cond b (Some (together g.1)) (lookup test (with_together gs)) ≡ option_map together (cond b (Some g.1) (lookup test gs))
    go true ih = refl
    go false ih = ih

grouped-together : (g : List ℕ → List JsonValue) (ks : List (List ℕ)) → with_together (map {B = List ℕ × List JsonValue} (λ k. (k, g k)) ks) ≡ map {B = List ℕ × JsonValue} (λ k. (k, together (g k))) ks
grouped-together g [] = refl
grouped-together g (k ∷ ks) = ap (λ l. (k, together (g k)) ∷ l) (grouped-together g ks)

pub group-found : (entries : List (List ℕ × JsonValue)) (key : List ℕ) → lookup (is_at (slice_cmp nat_cmp key)) (grouped together entries) ≡ option_map together (if_any (under key entries))
group-found entries key =
    ap (lookup (is_at (slice_cmp nat_cmp key))) (sym (grouped-together (λ k. under k entries) (keys_of entries)))
    ∙ lookup-together (is_at (slice_cmp nat_cmp key)) (grouped (λ xs. xs) entries)
    ∙ ap (option_map together) (get-parted entries key)

keys-grouped : (g : List ℕ → JsonValue) (ks : List (List ℕ)) → map_keys (map {B = List ℕ × JsonValue} (λ k. (k, g k)) ks) ≡ ks
keys-grouped g [] = refl
keys-grouped g (k ∷ ks) = ap (λ l. k ∷ l) (keys-grouped g ks)

groups-ascend : (entries : List (List ℕ × JsonValue)) → IsStrictlySortedBy (slice_cmp nat_cmp) (map_keys (grouped together entries))
groups-ascend entries = subst (IsStrictlySortedBy (slice_cmp nat_cmp)) (sym (keys-grouped (λ k. together (under k entries)) (keys_of entries))) (keys-ascend entries)

pub seen-ascend : (es : List (Entry Json)) → Ascends es → IsStrictlySortedBy (slice_cmp nat_cmp) (map_keys (seen es))
seen-ascend es ascends = subst (IsStrictlySortedBy (slice_cmp nat_cmp)) (sym (keys-seen es)) ascends

alone-together : (o : Option Json) → option_map together (if_any (alone o)) ≡ option_map json_data o
alone-together None = refl
alone-together (Some value) = refl

-- ---- the map itself, and with one entry more

pub map-is : (es : List (Entry Json)) → Ascends es → object (members_data es) ≡ object_of (seen es)
map-is es ascends =
    ap object (sym (members-back es))
    ∙ ap (λ l. object (members_of l))
    (same-entries (seen es) (grouped together (seen es)) (seen-ascend es ascends) (groups-ascend (seen es))
    (λ q. found-at q es ∙ sym (group-found (seen es) q ∙ ap (λ l. option_map together (if_any l)) (under-is q es ascends) ∙ alone-together (value_at q es))))

pub map-with : (es : List (Entry Json)) (key : List ℕ) (value : Json) (more : JsonValue) → Ascends es → json_data value ≡ together (more ∷ under key (seen es))
    → object (members_data (put_entry key value es)) ≡ object_of ((key, more) ∷ seen es)
map-with es key value more ascends is =
    ap object (sym (members-back (put_entry key value es)))
    ∙ ap (λ l. object (members_of l))
    (same-entries (seen (put_entry key value es)) (grouped together ((key, more) ∷ seen es))
    (seen-ascend (put_entry key value es) (ascends_put key value es ascends)) (groups-ascend ((key, more) ∷ seen es))
    (λ q. found-at q (put_entry key value es) ∙ go q (text_eq key q) refl ∙ sym (group-found ((key, more) ∷ seen es) q)))
  where
    go : (q : List ℕ) (b : Bool) → text_eq key q ≡ b
        → option_map json_data (value_at q (put_entry key value es)) ≡ option_map together (if_any (under q ((key, more) ∷ seen es)))
    go q true same =
        let k : key ≡ q = (bytes_eq-Decides key q).0 same in
        rw same
        (subst (λ w. option_map json_data (value_at w (put_entry key value es)) ≡ Some (together (more ∷ under w (seen es)))) k
        (ap (option_map json_data) (value_put key value es) ∙ ap Some is))
    go q false apart =
        rw apart
        (ap (option_map json_data) (value_elsewhere q key value es (nat_list_eq_equiv.symm q key ∙ apart))
        ∙ sym (ap (λ l. option_map together (if_any l)) (under-is q es ascends) ∙ alone-together (value_at q es)))

-- ---- several members

-- the object of members that hold these entries
pub object-held : (r : Result Json Memory) (members : Members) (entries : List (List ℕ × JsonValue)) → Hold members entries
    → IfOk r (λ json. (es : List (List ℕ × JsonValue)) → Hold members es → json_data json ≡ object_of es) → IfOk r (λ json. json_data json ≡ object_of entries)
object-held (Ok json) members entries held made = made entries held
object-held (Err memory) members entries held made = tt
