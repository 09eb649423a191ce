-- Contexts without their `@version` entries, member by member.
use Rattle.std.proofs.Common.{◌≡◌, ℕ, zero, suc, ◌+◌, ◌<◌, ◌≤◌, Bool, true, false, cond, List, [], ◌∷◌, ◌++◌, length, drop, get_or, map, refl, sym, ap, subst, ◌∙◌, append_assoc, append-nil, arith}
use Rattle.std.specs.Prelude.{filter, not}
use Rattle.std.specs.List.Sorted.{IsStrictlySortedBy}
use Rattle.std.specs.Map.{keys_of as map_keys}
use Rattle.std.proofs.lemmas.List.Kept.{IsStrictlySortedBy-filter}
use Rattle.lf_rdf.specs.Equality.{text_eq}
use Rattle.lf_sorted.specs.declared.map.Entry.{Entry}
use Rattle.lf_sorted.specs.Entries.{Ascends, keys, text_cmp}
use Rattle.lf_model.specs.declared.json.Json.{Json}
use Rattle.lf_model.specs.JsonData.{JsonValue, JsonMembers, no_members, member, item, items_of, members_list, members_of}
use Rattle.lf_model.specs.JsonBridge.{json_data, members_data}
use Rattle.def_selection.specs.Keywords.{at_version}
use Rattle.def_documents.specs.PrintedContext.{items_without_version, members_without_version, without_version}
use Rattle.lf_doc.proofs.Tops.{keys-seen, members-back, seen}
use Rattle.lf_doc.proofs.Written.{member-at}

-- ---- items

pub items-without : (xs : List Json) → items_of (map (λ x. without_version (json_data x)) xs) ≡ items_without_version (items_of (map json_data xs))
items-without [] = refl
items-without (x ∷ xs) = ap (item (without_version (json_data x))) (items-without xs)

-- ---- members

-- the entries that stay
abbrev pub kept : List (Entry Json) → List (List ℕ × JsonValue)
kept es = members_list (members_without_version (members_data es))

member-next : (es : List (Entry Json)) (i : ℕ) (e : Entry Json) → i < length es → e ≡ get_or es i e
    → members_data (drop i es) ≡ member e.key (json_data e.value) (members_data (drop (i + 1) es))
member-next es i e within is =
    let next : i + 1 ≡ suc i = omega arith in
    rw next (member-at es i e within is)

pub passed : (es : List (Entry Json)) (i : ℕ) (e : Entry Json) → i < length es → e ≡ get_or es i e → text_eq e.key at_version ≡ true → kept (drop i es) ≡ kept (drop (i + 1) es)
passed es i e within is version =
    ap (λ ms. members_list (members_without_version ms)) (member-next es i e within is)
    ∙ ap (λ b. members_list (cond b (members_without_version (members_data (drop (i + 1) es))) (member e.key (without_version (json_data e.value)) (members_without_version (members_data (drop (i + 1) es)))))) version

stays : (es : List (Entry Json)) (i : ℕ) (e : Entry Json) → i < length es → e ≡ get_or es i e → text_eq e.key at_version ≡ false
    → kept (drop i es) ≡ (e.key, without_version (json_data e.value)) ∷ kept (drop (i + 1) es)
stays es i e within is other =
    ap (λ ms. members_list (members_without_version ms)) (member-next es i e within is)
    ∙ ap (λ b. members_list (cond b (members_without_version (members_data (drop (i + 1) es))) (member e.key (without_version (json_data e.value)) (members_without_version (members_data (drop (i + 1) es)))))) other

seen-more : (done : List (Entry Json)) (e : Entry Json) → seen (done ++ e ∷ []) ≡ seen done ++ (e.key, json_data e.value) ∷ []
seen-more [] e = refl
seen-more (d ∷ done) e = ap (λ l. (d.key, json_data d.value) ∷ l) (seen-more done e)

pub copied-more : (es done : List (Entry Json)) (i : ℕ) (e copy : Entry Json) → i < length es → e ≡ get_or es i e → text_eq e.key at_version ≡ false
    → copy.key ≡ e.key → json_data copy.value ≡ without_version (json_data e.value) → seen done ++ kept (drop i es) ≡ kept es
    → seen (done ++ copy ∷ []) ++ kept (drop (i + 1) es) ≡ kept es
copied-more es done i e copy within is other key value so_far =
    ap (λ l. l ++ kept (drop (i + 1) es)) (seen-more done copy)
    ∙ append_assoc (seen done) ((copy.key, json_data copy.value) ∷ []) (kept (drop (i + 1) es))
    ∙ (λ j. seen done ++ (key j, value j) ∷ kept (drop (i + 1) es))
    ∙ ap (λ l. seen done ++ l) (sym (stays es i e within is other))
    ∙ so_far

pub kept-none : (es : List (Entry Json)) (i : ℕ) → length es ≤ i → kept (drop i es) ≡ []
kept-none [] zero done = refl
kept-none [] (suc i) done = refl
kept-none (e ∷ es) zero done = absurd (omega arith)
kept-none (e ∷ es) (suc i) done = kept-none es i (omega arith)

pub all-copied : (es done : List (Entry Json)) (i : ℕ) → length es ≤ i → seen done ++ kept (drop i es) ≡ kept es → seen done ≡ kept es
all-copied es done i over so_far = sym (ap (λ l. seen done ++ l) (kept-none es i over) ∙ append-nil (seen done)) ∙ so_far

list-back : (ms : JsonMembers) → members_of (members_list ms) ≡ ms
list-back no_members = refl
list-back (member key value rest) = ap (member key value) (list-back rest)

pub members-without : (es done : List (Entry Json)) → seen done ≡ kept es → members_data done ≡ members_without_version (members_data es)
members-without es done same = sym (members-back done) ∙ ap members_of same ∙ list-back (members_without_version (members_data es))

-- ---- the keys that stay ascend

keys-kept : (es : List (Entry Json)) → map_keys (kept es) ≡ filter (λ k. not (text_eq k at_version)) (keys es)
keys-kept [] = refl
keys-kept (e ∷ es) = go (text_eq e.key at_version) (keys-kept es)
  where
    go : (b : Bool) → map_keys (kept es) ≡ filter (λ k. not (text_eq k at_version)) (keys es)
        → map_keys (members_list (cond b (members_without_version (members_data es)) (member e.key (without_version (json_data e.value)) (members_without_version (members_data es)))))
        ≡ cond (not b) (e.key ∷ filter (λ k. not (text_eq k at_version)) (keys es)) (filter (λ k. not (text_eq k at_version)) (keys es))
    go true ih = ih
    go false ih = ap (λ l. e.key ∷ l) ih

pub kept-ascend : (es done : List (Entry Json)) → Ascends es → seen done ≡ kept es → Ascends done
kept-ascend es done ascends same =
    subst (IsStrictlySortedBy text_cmp) (sym (sym (keys-seen done) ∙ ap map_keys same ∙ keys-kept es))
    (IsStrictlySortedBy-filter text_cmp (λ k. not (text_eq k at_version)) (keys es) ascends)
