-- Members and items of JSON values.
use Rattle.std.proofs.Common.{◌≡◌, ℕ, ◌≤◌, Bool, true, false, List, [], ◌∷◌, length, Some, None, Ok, Err, cond, codes, refl, sym, ap, ◌∙◌, arith}
use Rattle.std.specs.Option.{option_map}
use Rattle.lf_sorted.specs.declared.map.Entry.{Entry}
use Rattle.lf_sorted.specs.Entries.{value_at}
use Rattle.lf_model.specs.declared.json.Json.{Json}
use Rattle.lf_model.specs.declared.json.Json.TheVariants as j
use Rattle.lf_model.specs.JsonBridge.{json_data, items_data, members_data}
use Rattle.lf_model.specs.JsonData.{JsonValue, JsonItems, null, truth, whole, fraction, text, array, object, item}
use Rattle.lf_model.proofs.JsonLemmas.{json_data-Map}
use Rattle.lf_rdf.specs.Equality.{text_eq}
use Rattle.def_contexts.specs.Members.{value_of, all_keys}
use Rattle.def_contexts.specs.Terms.{is_definition_key}
use Rattle.lf_model.specs.declared.error.LdError.TheVariants.{InvalidTermDefinition}
use Rattle.def_contexts.specs.TermParts.{container_given}
use Rattle.def_contexts.specs.Defining.{is_set_alone, sets_type}
use Rattle.lf_context.specs.Stages.{part}
use Rattle.lf_context.specs.Turns.{is_null, map_states, states_members}

pub member-found : (key : List ℕ) (es : List (Entry Json)) → option_map json_data (value_at key es) ≡ value_of key (members_data es)
member-found key [] = refl
member-found key (e ∷ es) = by (text_eq key e.key) (member-found key es)
  where
    by : (b : Bool) → option_map json_data (value_at key es) ≡ value_of key (members_data es) → option_map json_data (cond b (Some e.value) (value_at key es)) ≡ cond b (Some (json_data e.value)) (value_of key (members_data es))
    by true later = refl
    by false later = later

-- three items and more are no container
given-long : (v w u : JsonValue) (rest : JsonItems) → None ≡ container_given (array (item v (item w (item u rest))))
given-long null w u rest = refl
given-long (truth b) w u rest = refl
given-long (whole n) w u rest = refl
given-long fraction w u rest = refl
given-long (array items) w u rest = refl
given-long (object given) w u rest = refl
given-long (text t) null u rest = refl
given-long (text t) (truth b) u rest = refl
given-long (text t) (whole n) u rest = refl
given-long (text t) fraction u rest = refl
given-long (text t) (array items) u rest = refl
given-long (text t) (object given) u rest = refl
given-long (text t) (text s) u rest = refl

pub none_given : (items : List Json) → 3 ≤ length items → None ≡ container_given (array (items_data items))
none_given [] h = absurd (omega arith)
none_given (v ∷ []) h = absurd (omega arith)
none_given (v ∷ w ∷ []) h = absurd (omega arith)
none_given (v ∷ w ∷ u ∷ rest) h = given-long (json_data v) (json_data w) (json_data u) (items_data rest)

-- a map that states members of a definition
pub states-map : (value : Json) (es : List (Entry Json)) → value ≡ j.Map es → states_members (json_data value) ≡ map_states (members_data es) (part (codes "@id") (json_data value))
states-map value es e = let same : json_data value ≡ object (members_data es) = ap json_data e ∙ json_data-Map es in rw same refl

pub states-by : (value : Json) (es : List (Entry Json)) → value ≡ j.Map es → (lacks keys : Bool) → lacks ≡ is_null (part (codes "@id") (json_data value)) → keys ≡ all_keys is_definition_key (members_data es) → states_members (json_data value) ≡ cond lacks (Ok false) (cond keys (Ok true) (Err InvalidTermDefinition))
states-by value es e lacks keys n k = states-map value es e ∙ ap (λ b. cond b (Ok false) (cond (all_keys is_definition_key (members_data es)) (Ok true) (Err InvalidTermDefinition))) (sym n) ∙ ap (λ b. cond lacks (Ok false) (cond b (Ok true) (Err InvalidTermDefinition))) (sym k)

set-long : (v w : JsonValue) (rest : JsonItems) → false ≡ is_set_alone (array (item v (item w rest)))
set-long null w rest = refl
set-long (truth b) w rest = refl
set-long (whole n) w rest = refl
set-long fraction w rest = refl
set-long (text t) w rest = refl
set-long (array items) w rest = refl
set-long (object given) w rest = refl

-- two items and more are no `@set`
pub no_set : (items : List Json) → 2 ≤ length items → false ≡ is_set_alone (array (items_data items))
no_set [] h = absurd (omega arith)
no_set (v ∷ []) h = absurd (omega arith)
no_set (v ∷ w ∷ rest) h = set-long (json_data v) (json_data w) (items_data rest)

pub no_set_members : (es : List (Entry Json)) → 2 ≤ length es → false ≡ sets_type (object (members_data es))
no_set_members [] h = absurd (omega arith)
no_set_members (e ∷ []) h = absurd (omega arith)
no_set_members (e ∷ f ∷ rest) h = refl
