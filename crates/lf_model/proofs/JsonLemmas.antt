-- The data of each variant of a JSON value.
use Rattle.std.proofs.Common.{◌≡◌, ℕ, ℤ, Bool, List, [], ◌∷◌, map, refl, ap, ◌∙◌, rules}
use Rattle.lf_sorted.specs.declared.map.Entry.{Entry}
use Rattle.lf_sorted.specs.Entries.{entry}
use Rattle.lf_model.specs.declared.json.Json.{Json, map-Json, out-Json, fold_out-Json, the_lemmas}
use Rattle.lf_model.specs.declared.json.Json.TheOpen.{Json-F}
use Rattle.lf_model.specs.declared.json.Json.TheVariants as j
use Rattle.lf_model.specs.JsonData.{JsonValue, null, truth, whole, fraction, text, array, object, member}
use Rattle.lf_model.specs.JsonBridge.{json_step, json_data, items_data, members_data, members_of_entries}

pub json_data-Null : json_data j.Null ≡ null
json_data-Null = search (rules, the_lemmas)

pub json_data-Bool : (b : Bool) → json_data (j.Bool b) ≡ truth b
json_data-Bool b = search (rules, the_lemmas)

pub json_data-Whole : (n : ℤ) → json_data (j.Whole n) ≡ whole n
json_data-Whole n = search (rules, the_lemmas)

pub json_data-Fraction : json_data j.Fraction ≡ fraction
json_data-Fraction = search (rules, the_lemmas)

pub json_data-Text : (t : List ℕ) → json_data (j.Text t) ≡ text t
json_data-Text t = search (rules, the_lemmas)

pub json_data-List : (items : List Json) → json_data (j.List items) ≡ array (items_data items)
json_data-List items = search (rules, the_lemmas)

members_of_mapped : (entries : List (Entry Json)) → members_of_entries (map (λ e. entry e.key (json_data e.value)) entries) ≡ members_data entries
members_of_mapped [] = refl
members_of_mapped (e ∷ es) = ap (member e.key (json_data e.value)) (members_of_mapped es)

folded-Map : (entries : List (Entry Json)) → json_data (j.Map entries) ≡ object (members_of_entries (map (λ e. entry e.key (json_data e.value)) entries))
folded-Map entries = search (rules, the_lemmas)

pub json_data-Map : (entries : List (Entry Json)) → json_data (j.Map entries) ≡ object (members_data entries)
json_data-Map entries = folded-Map entries ∙ ap object (members_of_mapped entries)

-- one level of a JSON value
abbrev pub json_layer : Json-F Json → JsonValue
json_layer Json-F.Null = null
json_layer (Json-F.Bool b) = truth b
json_layer (Json-F.Whole n) = whole n
json_layer Json-F.Fraction = fraction
json_layer (Json-F.Text t) = text t
json_layer (Json-F.List items) = array (items_data items)
json_layer (Json-F.Map entries) = object (members_data entries)

layered : (layer : Json-F Json) → json_step (map-Json Json JsonValue json_data layer) ≡ json_layer layer
layered Json-F.Null = refl
layered (Json-F.Bool b) = refl
layered (Json-F.Whole n) = refl
layered Json-F.Fraction = refl
layered (Json-F.Text t) = refl
layered (Json-F.List items) = refl
layered (Json-F.Map entries) = ap object (members_of_mapped entries)

pub json_data_out : (value : Json) → json_data value ≡ json_layer (out-Json value)
json_data_out value = fold_out-Json JsonValue json_step value ∙ layered (out-Json value)

pub ruleset json_cases = (json_data-Null, json_data-Bool, json_data-Whole, json_data-Fraction, json_data-Text, json_data-List, json_data-Map)
