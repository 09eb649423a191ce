use Rattle.std.proofs.Common.{ap, ◌∙◌}
use Rattle.std.specs.Option.{option_map}
use Rattle.lf_model.specs.JsonBridge.{json_data}
use Rattle.lf_expand.proofs.Values.{value_in}
use Rattle.lf_expand.proofs.defaults.member.Goals as goal

pub returns : goal.returns
returns c = ap (option_map json_data) c.get.ensures ∙ value_in c.args.key.now c.args.members.now
