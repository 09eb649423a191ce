use Rattle.std.proofs.Common.{ap}
use Rattle.std.specs.Option.{option_map}
use Rattle.lf_model.specs.ValueBridge.{values_data}
use Rattle.lf_lists.proofs.ReadStates.{list_value, plain_found}
use Rattle.lf_lists.proofs.value.value_at.Goals as goal

pub returns-in-Some-clause-value : goal.returns-in-Some-clause-value
returns-in-Some-clause-value g c = list_value c.args.graph.now c.in_ok-list.ensures.list c.in-Some.items (ap (option_map values_data) c.in-Some.is)

pub returns-in_ok-value-in-None-clause-value : goal.returns-in_ok-value-in-None-clause-value
returns-in_ok-value-in-None-clause-value g c =
    plain_found c.args.graph.now c.in_ok-list.ensures.list c.in_ok-value-in-None.value (ap (option_map values_data) c.in-None.is) c.in_ok-value-in-None.ensures
