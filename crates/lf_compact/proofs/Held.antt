-- Members of a map, and the object of them.
use Rattle.std.proofs.Common.{◌≡◌, ℕ, ◌<◌, arith, length, Bool, true, false, cond, List, [], ◌∷◌, ◌++◌, Option, Some, None, refl, ap, sym, ◌∙◌, subst, map, append_assoc, append-nil, nat_cmp}
use Rattle.std.specs.Prelude.{option_map}
use Rattle.std.specs.List.{flat_map}
use Rattle.std.specs.List.Sorted.{IsStrictlySortedBy}
use Rattle.std.specs.Cmp.Lexicographic.{slice_cmp}
use Rattle.std.specs.BTreeMap.{get, IsOrdered}
use Rattle.lf_rdf.specs.Equality.{text_eq}
use Rattle.lf_sorted.specs.declared.map.Entry.{Entry}
use Rattle.lf_model.specs.declared.json.Json.{Json}
use Rattle.lf_model.specs.JsonData.{JsonValue, object, members_of, member}
use Rattle.lf_model.specs.JsonBridge.{json_data, members_data}
use Rattle.lf_model.specs.declared.json.Json.TheVariants as j
use Rattle.lf_model.proofs.JsonLemmas.{json_data-Map}
use Rattle.lf_sorted.specs.Entries.{Ascends}
use Rattle.def_documents.specs.Grouping.{elements_of, grouped, keys_of, object_of, together, under}
use Rattle.lf_compact.specs.Members.{Adds, Hold, join, joined_at, joined_data, several, value_of, with_more, Members}
use Rattle.std.specs.Map.{lookup, keys_of as map_keys}
use Rattle.std.specs.BTreeMap.{is_at}
use Rattle.std.proofs.lemmas.Slice.Eq.{bytes_eq-Decides}
use Rattle.lf_compact.specs.declared.members.Joined.{Joined}
use Rattle.lf_compact.specs.Groups.{if_any}
use Rattle.lf_compact.proofs.Entries.{same-entries}
use Rattle.lf_compact.proofs.Grouped.{under-more, parted-ordered, get-parted}

-- ---- one entry more

flat-last : (xs : List JsonValue) (y : JsonValue) → flat_map elements_of (xs ++ y ∷ []) ≡ flat_map elements_of xs ++ elements_of y
flat-last [] y = append-nil (elements_of y)
flat-last (x ∷ xs) y = ap (λ l. elements_of x ++ l) (flat-last xs y) ∙ sym (append_assoc (elements_of x) (flat_map elements_of xs) (elements_of y))

join-more : (xs : List JsonValue) (value : JsonValue) → Some (with_more (join xs) value) ≡ join (xs ++ value ∷ [])
join-more [] value = refl
join-more (x ∷ []) value = ap (λ l. Some (several (elements_of x ++ l))) (sym (append-nil (elements_of value)))
join-more (x ∷ y ∷ rest) value = ap (λ l. Some (several l)) (sym (flat-last (x ∷ y ∷ rest) value))

append-none : {D : Type 0} (xs : List D) → xs ≡ xs ++ []
append-none [] = refl
append-none (x ∷ xs) = ap (λ l. x ∷ l) (append-none xs)

pub held-more : (before after : Members) (key : List ℕ) (value : JsonValue) (entries : List (List ℕ × JsonValue)) → Hold before entries
    → Adds before after key value → Hold after (entries ++ (key, value) ∷ [])
held-more before after key value entries held added q =
    added q ∙ go (text_eq key q) ∙ ap join (sym (under-more q key value entries))
  where
    go : (b : Bool) → cond b (Some (with_more (joined_at before q) value)) (joined_at before q) ≡ join (under q entries ++ cond b (value ∷ []) [])
    go true = ap (λ o. Some (with_more o value)) (held q) ∙ join-more (under q entries) value
    go false = held q ∙ ap join (append-none (under q entries))

-- ---- one value more under a key

pub added-to : (members after : Members) (key : List ℕ) (joined : Joined) (value : JsonValue)
    → ((q : List ℕ) → get (slice_cmp nat_cmp) after q ≡ cond (text_eq key q) (Some joined) (get (slice_cmp nat_cmp) members q))
    → joined_data joined ≡ with_more (joined_at members key) value → Adds members after key value
added-to members after key joined value put made q = ap (option_map joined_data) (put q) ∙ go (text_eq key q) refl
  where
    go : (b : Bool) → text_eq key q ≡ b → option_map joined_data (cond b (Some joined) (get (slice_cmp nat_cmp) members q))
        ≡ cond b (Some (with_more (joined_at members q) value)) (joined_at members q)
    go true e = ap Some (made ∙ ap (λ w. with_more (joined_at members w) value) ((bytes_eq-Decides key q).0 e))
    go false e = refl

-- ---- the object

-- the entries that are written
abbrev pub written_data : List (Entry Json) → List (List ℕ × JsonValue)
written_data entries = map (λ e. (e.key, json_data e.value)) entries

-- the members with the values that are written
abbrev pub written_entries : List (List ℕ × Joined) → List (List ℕ × JsonValue)
written_entries es = map (λ e. (e.0, value_of (joined_data e.1))) es

keys-written : (es : List (List ℕ × Joined)) → map_keys (written_entries es) ≡ map_keys es
keys-written [] = refl
keys-written (e ∷ es) = ap (λ l. e.0 ∷ l) (keys-written es)

lookup-written : (test : List ℕ → Bool) (es : List (List ℕ × Joined)) →
    lookup test (written_entries es) ≡ option_map value_of (option_map joined_data (lookup test es))
lookup-written test [] = refl
lookup-written test (e ∷ es) = go (test e.0) (lookup-written test es)
  where
    go : (b : Bool) → lookup test (written_entries es) ≡ option_map value_of (option_map joined_data (lookup test es))
        → cond b (Some (value_of (joined_data e.1))) (lookup test (written_entries es))
        ≡ option_map value_of (option_map joined_data (cond b (Some e.1) (lookup test es)))
    go true ih = refl
    go false ih = ih

-- the groups with what they come to
abbrev with_together : List (List ℕ × List JsonValue) → List (List ℕ × JsonValue)
with_together es = map (λ e. (e.0, together e.1)) es

together-lookup : (test : List ℕ → Bool) (es : List (List ℕ × List JsonValue)) →
    lookup test (with_together es) ≡ option_map together (lookup test es)
together-lookup test [] = refl
together-lookup test (e ∷ es) = go (test e.0) (together-lookup test es)
  where
    go : (b : Bool) → lookup test (with_together es) ≡ option_map together (lookup test es)
        → cond b (Some (together e.1)) (lookup test (with_together es)) ≡ option_map together (cond b (Some e.1) (lookup test es))
    go true ih = refl
    go false ih = ih

joined-together : (xs : List JsonValue) → option_map value_of (join xs) ≡ option_map together (if_any xs)
joined-together [] = refl
joined-together (x ∷ []) = refl
joined-together (x ∷ y ∷ rest) = refl

grouped-map : (g : List ℕ → List JsonValue) (ks : List (List ℕ)) → with_together (map {B = List ℕ × List JsonValue} (λ k. (k, g k)) ks) ≡ map {B = List ℕ × JsonValue} (λ k. (k, together (g k))) ks
grouped-map g [] = refl
grouped-map g (k ∷ ks) = ap (λ l. (k, together (g k)) ∷ l) (grouped-map g ks)

keys-together : (es : List (List ℕ × List JsonValue)) → map_keys (with_together es) ≡ map_keys es
keys-together [] = refl
keys-together (e ∷ es) = ap (λ l. e.0 ∷ l) (keys-together es)

pub held-written : (members : Members) (entries : List (List ℕ × JsonValue)) → IsOrdered (slice_cmp nat_cmp) members → Hold members entries
    → written_entries members.entries ≡ grouped together entries
held-written members entries ordered held =
    same-entries (written_entries members.entries) (with_together (grouped (λ xs. xs) entries))
    (subst (IsStrictlySortedBy (slice_cmp nat_cmp)) (sym (keys-written members.entries)) ordered)
    (subst (IsStrictlySortedBy (slice_cmp nat_cmp)) (sym (keys-together (grouped (λ xs. xs) entries))) (parted-ordered entries))
    (λ q. lookup-written (is_at (slice_cmp nat_cmp q)) members.entries
    ∙ ap (option_map value_of) (held q)
    ∙ joined-together (under q entries)
    ∙ sym (together-lookup (is_at (slice_cmp nat_cmp q)) (grouped (λ xs. xs) entries) ∙ ap (option_map together) (get-parted entries q)))
    ∙ grouped-map (λ k. under k entries) (keys_of entries)

-- ---- what is written is the object

members-written : (ws : List (Entry Json)) → members_data ws ≡ members_of (written_data ws)
members-written [] = refl
members-written (w ∷ ws) = ap (member w.key (json_data w.value)) (members-written ws)

keys-data : (ws : List (Entry Json)) → map (λ w. w.key) ws ≡ map_keys (written_data ws)
keys-data [] = refl
keys-data (w ∷ ws) = ap (λ l. w.key ∷ l) (keys-data ws)

pub written-ascends : (members : Members) (ws : List (Entry Json)) → IsOrdered (slice_cmp nat_cmp) members
    → written_data ws ≡ written_entries members.entries → Ascends ws
written-ascends members ws ordered same =
    subst (IsStrictlySortedBy (slice_cmp nat_cmp))
    (sym (keys-data ws ∙ ap map_keys same ∙ keys-written members.entries)) ordered

pub written-object : (members : Members) (ws : List (Entry Json)) (entries : List (List ℕ × JsonValue)) → IsOrdered (slice_cmp nat_cmp) members
    → written_data ws ≡ written_entries members.entries → Hold members entries → json_data (j.Map ws) ≡ object_of entries
written-object members ws entries ordered same held =
    json_data-Map ws
    ∙ ap object (members-written ws ∙ ap members_of (same ∙ held-written members entries ordered held))

-- ---- what the loop leaves

pub loop-done : (ws : List (Entry Json)) (es : List (List ℕ × Joined)) (all : List (List ℕ × JsonValue)) → (0 < length es → ⊥)
    → written_data ws ++ written_entries es ≡ all → written_data ws ≡ all
loop-done ws [] all none same = append-none (written_data ws) ∙ same
loop-done ws (e ∷ es) all none same = absurd (none (omega arith))

-- taken out and put in again
pub put-twice : {X : Type 0} (b : Bool) (x o : Option X) → cond b x (cond b None o) ≡ cond b x o
put-twice true x o = refl
put-twice false x o = refl
