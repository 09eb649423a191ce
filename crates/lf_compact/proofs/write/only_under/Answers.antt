use Rattle.std.proofs.Common.{◌∷◌, []}
use Rattle.lf_model.specs.JsonBridge.{json_data}
use Rattle.def_selection.specs.Iris.{short_keyword}
use Rattle.lf_compact.proofs.Steps.{if-ok, hold-empty}
use Rattle.lf_compact.proofs.write.only_under.Goals as goal

pub returns : goal.returns
returns c =
    if-ok c.object_of.result
    (λ json made. made ((short_keyword c.args.inverse.now c.args.keyword.now, json_data c.args.value) ∷ [])
    (c.in_ok-add_under.ensures [] (hold-empty c.new-members.result c.new-members.ensures.empty)))
    c.object_of.ensures
