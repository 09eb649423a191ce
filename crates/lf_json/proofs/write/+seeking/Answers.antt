use Rattle.std.proofs.Common.{◌≡◌, ap, sym, ◌∙◌}
use Rattle.lf_model.specs.JsonBridge.{json_data, members_data}
use Rattle.lf_model.specs.JsonData as j
use Rattle.lf_model.proofs.JsonLemmas.{json_data-Map}
use Rattle.lf_json.specs.Tokens.{has_fraction}
use Rattle.lf_json.proofs.write.+seeking.Goals as goal

pub has_fraction-returns-in-Map : goal.has_fraction-returns-in-Map
has_fraction-returns-in-Map n c =
    let same : json_data c.args.json.now ≡ j.object (members_data c.in-Map.members) = ap json_data c.in-Map.is ∙ json_data-Map c.in-Map.members in
    c.members_have_fraction.ensures ∙ ap has_fraction (sym same)
