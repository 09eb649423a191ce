use Rattle.std.proofs.Common.{◌≡◌, ap, sym, ◌∙◌}
use Rattle.lf_model.specs.JsonBridge.{json_data, members_data}
use Rattle.lf_model.specs.JsonData as j
use Rattle.lf_model.proofs.JsonLemmas.{json_data-Map}
use Rattle.def_contexts.specs.Defining.{sets_type}
use Rattle.lf_context.proofs.start.sets_type.Goals as goal

pub returns-in-Map : goal.returns-in-Map
returns-in-Map c =
    let same : json_data c.args.value.now ≡ j.object (members_data c.in-Map.members) = ap json_data c.in-Map.is ∙ json_data-Map c.in-Map.members in
    c.members_set_type.ensures ∙ ap sets_type (sym same)
