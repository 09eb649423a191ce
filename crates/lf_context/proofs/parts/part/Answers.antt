use Rattle.std.proofs.Common.{◌≡◌, ap, sym, ◌∙◌}
use Rattle.lf_model.specs.JsonBridge.{json_data, members_data}
use Rattle.lf_model.specs.JsonData as j
use Rattle.lf_model.proofs.JsonLemmas.{json_data-Map}
use Rattle.lf_context.specs.Stages.{part}
use Rattle.lf_context.proofs.parts.part.Goals as goal

pub returns-in-Map : goal.returns-in-Map
returns-in-Map c =
    let same : json_data c.args.value.now ≡ j.object (members_data c.in-Map.members) = ap json_data c.in-Map.is ∙ json_data-Map c.in-Map.members in
    c.member.ensures ∙ ap (part c.args.key.now) (sym same)
