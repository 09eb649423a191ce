use Rattle.std.proofs.Common.{◌≡◌, ◌∷◌, [], ◌∙◌, ap, cond, length, map, not}
use Rattle.std.specs.Prelude.{nat_eq}
use Rattle.std.proofs.lemmas.Result.{on_ok_weaker}
use Rattle.lf_model.specs.JsonBridge.{json_data}
use Rattle.def_selection.specs.Iris.{short_keyword}
use Rattle.def_selection.specs.Keywords.{at_type}
use Rattle.def_documents.specs.Grouping.{alone_or_array}
use Rattle.def_documents.specs.Nodes.{types_in_array}
use Rattle.lf_compact.proofs.Added.{adds-same}
use Rattle.lf_compact.proofs.NodeParts.{names-part}
use Rattle.lf_compact.proofs.parts.add_type_names.Goals as goal

pub returns : goal.returns
unfolding at_type
returns c =
    let table = c.args.inverse.now in
    let key : c.in_ok-key.key ≡ short_keyword table at_type = c.in_ok-key.ensures in
    let some : c.has_any-some.result ≡ not (nat_eq (length c.args.types.items) 0) =
    c.has_any-some.ensures ∙ ap (λ l. not (nat_eq (length l) 0)) c.as_slice.ensures.value in
    let value : json_data c.alone_or_array.result ≡ alone_or_array (types_in_array table (short_keyword table at_type)) (map json_data c.args.types.items) =
    c.alone_or_array.ensures
    ∙ ap (λ b. alone_or_array b (map json_data c.args.types.items)) (c.types_in_array-in_array.ensures ∙ ap (types_in_array table) key) in
    on_ok_weaker c.add_where.result
    (adds-same c.args.members.now c.add_where.new.members _ _
    ((λ i. cond (some i) ((key i, value i) ∷ []) []) ∙ names-part table c.args.types.items))
    c.add_where.ensures
