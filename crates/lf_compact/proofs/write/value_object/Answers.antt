use Rattle.std.proofs.Common.{Some, ◌∷◌, [], ◌++◌, ap, sym, ◌∙◌}
use Rattle.lf_model.specs.JsonBridge.{json_data}
use Rattle.def_documents.specs.Values.{language_entry}
use Rattle.def_selection.specs.Iris.{short_keyword}
use Rattle.def_selection.specs.Keywords.{at_value}
use Rattle.lf_compact.specs.Plains.{plain_data}
use Rattle.lf_compact.proofs.Steps.{hold-empty, some-value}
use Rattle.lf_compact.proofs.write.value_object.Goals as goal

pub returns : goal.returns
unfolding at_value
returns c =
    let table = c.args.inverse.now in
    let scalar = (short_keyword table at_value, json_data c.args.plain.scalar) ∷ [] in
    let datatype = c.in_ok-add_datatype.ensures.0 in
    some-value table (plain_data c.args.plain) datatype c.in_ok-add_datatype.ensures.1
    ∙ sym (ap Some
    (c.in_ok-object_of.ensures (scalar ++ datatype ++ language_entry table c.args.plain.language)
    (c.in_ok-add_language.ensures (scalar ++ datatype)
    (c.in_ok-add_datatype.ensures.2 scalar
    (c.in_ok-add_under.ensures [] (hold-empty c.new-members.result c.new-members.ensures.empty))))))
