-- What is known of a value by its variant.
use Rattle.std.proofs.Common.{◌≡◌, ℕ, nat_eq, Bool, true, false, List, [], ◌∷◌, Option, Some, ap, ◌∙◌, refl, cond}
use Rattle.std.specs.Option.{option_map}
use Rattle.std.specs.Cmp.Lexicographic.{pointwise}
use Rattle.lf_sorted.specs.Entries.{value_at}
use Rattle.def_contexts.specs.Members.{value_of}
use Rattle.lf_sorted.specs.declared.map.Entry.{Entry}
use Rattle.lf_model.specs.declared.table.TermTable.{TermTable}
use Rattle.lf_model.specs.declared.json.Json.{Json}
use Rattle.lf_model.specs.declared.json.Json.TheVariants as j
use Rattle.lf_model.specs.JsonData.{JsonValue, JsonMembers, object, array}
use Rattle.lf_model.specs.JsonBridge.{json_data, items_data, members_data}
use Rattle.lf_model.proofs.JsonLemmas.{json_data-Map, json_data-List}
use Rattle.def_contexts.specs.NodeTests.{is_any, type_test_of, types_given}

pub map_value : (value : Json) (members : List (Entry Json)) → value ≡ j.Map members → json_data value ≡ object (members_data members)
map_value value members is = ap json_data is ∙ json_data-Map members

pub list_value : (value : Json) (items : List Json) → value ≡ j.List items → json_data value ≡ array (items_data items)
list_value value items is = ap json_data is ∙ json_data-List items

pub types_of_map : (table : TermTable) (given : JsonMembers) → is_any (object given) ≡ false → type_test_of table (object given) ≡ types_given table (object given)
types_of_map table given e = rw e refl

mapped_if : (b : Bool) (v : Json) (rest : Option Json) (seen : Option JsonValue) → option_map json_data rest ≡ seen → option_map json_data (cond b (Some v) rest) ≡ cond b (Some (json_data v)) seen
mapped_if true v rest seen h = refl
mapped_if false v rest seen h = h

-- the value at a key of a map is the value of the key in its data
pub value_in : (key : List ℕ) (es : List (Entry Json)) → option_map json_data (value_at key es) ≡ value_of key (members_data es)
value_in key [] = refl
value_in key (e ∷ es) = mapped_if (pointwise nat_eq key e.key) e.value (value_at key es) (value_of key (members_data es)) (value_in key es)
