-- The data of a value of a property, by a fold over the value.
use Rattle.std.specs.Prelude.{List, map}
use Rattle.lf_model.specs.declared.value.Value.{Value}
use Rattle.lf_model.specs.declared.value.Value.TheFolds.{fold-Value}
use Rattle.lf_model.specs.declared.value.Value.TheOpen.{Value-F}
use Rattle.lf_model.specs.ValueData.{ListValue, literal, reference, list, ListValues, values_of}

-- one level, with each item already seen as its data
abbrev pub value_step : Value-F ListValue → ListValue
value_step (Value-F.Literal term) = literal term
value_step (Value-F.Ref term) = reference term
value_step (Value-F.List items) = list (values_of items)

abbrev pub value_data : Value → ListValue
value_data = fold-Value ListValue value_step

-- the values of a property, or the items of a list
abbrev pub values_data : List Value → ListValues
values_data values = values_of (map value_data values)
