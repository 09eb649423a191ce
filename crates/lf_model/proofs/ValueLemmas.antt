-- The data of each variant of a value of a property.
use Rattle.std.proofs.Common.{◌≡◌, List, refl, ◌∙◌, rules}
use Rattle.lf_rdf.specs.declared.term.Term.{Term}
use Rattle.lf_model.specs.declared.value.Value.{Value, map-Value, out-Value, fold_out-Value, the_lemmas}
use Rattle.lf_model.specs.declared.value.Value.TheOpen.{Value-F}
use Rattle.lf_model.specs.declared.value.Value.TheVariants as v
use Rattle.lf_model.specs.ValueData.{ListValue, literal, reference, list}
use Rattle.lf_model.specs.ValueBridge.{value_step, value_data, values_data}

pub value_data-Literal : (term : Term) → value_data (v.Literal term) ≡ literal term
value_data-Literal term = search (rules, the_lemmas)

pub value_data-Ref : (term : Term) → value_data (v.Ref term) ≡ reference term
value_data-Ref term = search (rules, the_lemmas)

pub value_data-List : (items : List Value) → value_data (v.List items) ≡ list (values_data items)
value_data-List items = search (rules, the_lemmas)

-- one level of a value
abbrev pub value_layer : Value-F Value → ListValue
value_layer (Value-F.Literal term) = literal term
value_layer (Value-F.Ref term) = reference term
value_layer (Value-F.List items) = list (values_data items)

layered : (layer : Value-F Value) → value_step (map-Value Value ListValue value_data layer) ≡ value_layer layer
layered (Value-F.Literal term) = refl
layered (Value-F.Ref term) = refl
layered (Value-F.List items) = refl

pub value_data_out : (value : Value) → value_data value ≡ value_layer (out-Value value)
value_data_out value = fold_out-Value ListValue value_step value ∙ layered (out-Value value)

pub ruleset value_cases = (value_data-Literal, value_data-Ref, value_data-List)
