use Rattle.std.proofs.Common.{◌≡◌, ◌∷◌, [], ◌∙◌, ap, cond}
use Rattle.std.proofs.lemmas.Result.{on_ok_weaker}
use Rattle.lf_model.specs.JsonBridge.{json_data}
use Rattle.def_documents.specs.Entries.{entries_in_order}
use Rattle.def_documents.specs.Grouping.{object_of}
use Rattle.def_selection.specs.Iris.{short_keyword}
use Rattle.def_selection.specs.Keywords.{at_reverse}
use Rattle.lf_compact.specs.Pieces.{properties_data}
use Rattle.lf_compact.proofs.Added.{adds-same}
use Rattle.lf_compact.proofs.NodeParts.{reverse-held}
use Rattle.lf_compact.proofs.Steps.{hold-empty}
use Rattle.lf_compact.proofs.parts.add_reverse.Goals as goal

pub returns : goal.returns
unfolding at_reverse
returns c =
    let table = c.args.inverse.now in
    let entries = entries_in_order (properties_data c.args.properties) in
    let held = c.in_ok-add_in_order.ensures [] (hold-empty c.new-inner.result c.new-inner.ensures.empty) in
    let key : c.in_ok-key.key ≡ short_keyword table at_reverse = c.in_ok-key.ensures in
    let object : json_data c.in_ok-object.object ≡ object_of entries = c.in_ok-object.ensures entries held in
    on_ok_weaker c.add_where.result
    (adds-same c.args.members.now c.add_where.new.members _ _
    ((λ i. cond (c.holds_any-some.ensures i) ((key i, object i) ∷ []) []) ∙ reverse-held table c.add_in_order.new.members entries held))
    c.add_where.ensures
