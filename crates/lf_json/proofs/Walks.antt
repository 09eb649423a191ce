-- Lists that grow at their end, and what is left of a list, under the conversion.
use Rattle.std.proofs.Common.{◌≡◌, ℕ, IsUtf8, encode_utf8, append_assoc, length, arith, List, [], ◌∷◌, ◌++◌, map, String, Global, string_bytes, string_cmp, Less, refl, ap, sym, ◌∙◌}
use Rattle.std.specs.List.{AllByRecursion, flat_map}
use Rattle.std.specs.Str.{chars}
use Rattle.std.proofs.lemmas.List.{append-nil, map-append}
use Rattle.std.proofs.lemmas.Str.{IsUtf8-past_char, chars_past_char}
use Rattle.std.specs.List.Sorted.{IsStrictlySortedBy}
use Rattle.std.specs.Map.{keys_of}
use Rattle.serde_json.specs.View.{view, items_view, members_view}
use Rattle.serde_json.specs.declared.value.Value.{Value}
use Rattle.lf_sorted.specs.declared.map.Entry.{Entry}
use Rattle.lf_sorted.specs.Entries.{keys, text_cmp, Ascends}
use Rattle.lf_model.specs.declared.json.Json.{Json}
use Rattle.lf_model.specs.JsonBridge.{json_data, members_data}
use Rattle.lf_model.specs.JsonData.{JsonValue, items_of, members_of, member, item}
use Rattle.lf_json.specs.Reading.{json_of, items_json, members_json, pointer_char}

abbrev pub Member : Type 0
Member = String Global × Value

abbrev pub value_seen : Value → JsonValue
value_seen v = json_of (view v)

pub items_json-view : (vs : List Value) → items_json (items_view vs) ≡ items_of (map value_seen vs)
items_json-view [] = refl
items_json-view (v ∷ vs) = ap (item (value_seen v)) (items_json-view vs)

-- a key and its value
abbrev pub member_seen : Member → List ℕ × JsonValue
member_seen m = (string_bytes m.0, value_seen m.1)

abbrev pub entry_seen : Entry Json → List ℕ × JsonValue
entry_seen e = (e.key, json_data e.value)

pub members_json-view : (ms : List Member) → members_json (members_view ms) ≡ members_of (map member_seen ms)
members_json-view [] = refl
members_json-view (m ∷ ms) = ap (member (string_bytes m.0) (value_seen m.1)) (members_json-view ms)

pub members_data-seen : (es : List (Entry Json)) → members_data es ≡ members_of (map entry_seen es)
members_data-seen [] = refl
members_data-seen (e ∷ es) = ap (member e.key (json_data e.value)) (members_data-seen es)

pub keys-seen : (es : List (Entry Json)) → keys es ≡ map (λ p. p.0) (map entry_seen es)
keys-seen [] = refl
keys-seen (e ∷ es) = ap (λ ks. e.key ∷ ks) (keys-seen es)

pub keys-members : (ms : List Member) → map (λ p. p.0) (map member_seen ms) ≡ map string_bytes (keys_of ms)
keys-members [] = refl
keys-members (m ∷ ms) = ap (λ ks. string_bytes m.0 ∷ ks) (keys-members ms)

above_all : (k : String Global) (ks : List (String Global)) → AllByRecursion (λ y. string_cmp k y ≡ Less) ks → AllByRecursion (λ y. text_cmp (string_bytes k) y ≡ Less) (map string_bytes ks)
above_all k [] h = tt
above_all k (x ∷ xs) h = (h.0, above_all k xs h.1)

pub bytes_ascend : (ks : List (String Global)) → IsStrictlySortedBy string_cmp ks → IsStrictlySortedBy text_cmp (map string_bytes ks)
unfolding IsStrictlySortedBy
bytes_ascend [] h = tt
bytes_ascend (k ∷ ks) h = (above_all k ks h.0, bytes_ascend ks h.1)

-- entries that are seen as the members are in order
pub entries_ascend : (es : List (Entry Json)) (ms : List Member) → map entry_seen es ≡ map member_seen ms → IsStrictlySortedBy string_cmp (keys_of ms) → Ascends es
entries_ascend es ms alike h =
    let same : keys es ≡ map string_bytes (keys_of ms) = keys-seen es ∙ ap (map (λ p. p.0)) alike ∙ keys-members ms in
    rw same (bytes_ascend (keys_of ms) h)

pub entries_same : (es : List (Entry Json)) (ms : List Member) → map entry_seen es ≡ map member_seen ms → members_data es ≡ members_json (members_view ms)
entries_same es ms alike = members_data-seen es ∙ ap members_of alike ∙ sym (members_json-view ms)

-- one character more of a key's part of a pointer
pub one_char_more : (key_part old rest path more : List ℕ) (c : ℕ) → IsUtf8 old → old ≡ encode_utf8 c ++ rest → path ++ flat_map pointer_char (chars old) ≡ key_part → more ≡ path ++ pointer_char c
    → IsUtf8 rest × (more ++ flat_map pointer_char (chars rest) ≡ key_part)
one_char_more key_part old rest path more c utf8 front before grown = (
  IsUtf8-past_char old rest c utf8 front,
  ap (λ p. p ++ flat_map pointer_char (chars rest)) grown
      ∙ append_assoc path (pointer_char c) (flat_map pointer_char (chars rest))
      ∙ ap (λ cs. path ++ flat_map pointer_char cs) (sym (chars_past_char old rest c utf8 front))
      ∙ before,
)

-- no character is left
pub no_char_left : (key_part rest path : List ℕ) → length rest ≡ 0 → path ++ flat_map pointer_char (chars rest) ≡ key_part → path ≡ key_part
unfolding chars
no_char_left key_part [] path e before = sym (append-nil path) ∙ before
no_char_left key_part (x ∷ xs) path e before = absurd (omega arith)

pub seen_more : (es : List (Entry Json)) (done : List Member) (e : Entry Json) (m : Member) → map entry_seen es ≡ map member_seen done → entry_seen e ≡ member_seen m
    → map entry_seen (es ++ e ∷ []) ≡ map member_seen (done ++ m ∷ [])
seen_more es done e m before same = map-append entry_seen es (e ∷ []) ∙ ap (λ l. l ++ entry_seen e ∷ []) before ∙ ap (λ s. map member_seen done ++ s ∷ []) same ∙ sym (map-append member_seen done (m ∷ []))
