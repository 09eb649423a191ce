use Rattle.std.proofs.Common.{◌≡◌, ◌++◌, ◌∷◌, [], map, ap, subst, ◌∙◌}
use Rattle.std.specs.Prelude.{option_map}
use Rattle.lf_model.specs.JsonBridge.{json_data}
use Rattle.lf_model.specs.JsonData.{array, items_of}
use Rattle.lf_model.specs.declared.json.Json.TheVariants as j
use Rattle.lf_model.proofs.JsonLemmas.{json_data-List}
use Rattle.def_selection.specs.Iris.{short_keyword}
use Rattle.def_selection.specs.Keywords.{at_graph}
use Rattle.lf_compact.specs.Members.{Hold}
use Rattle.lf_compact.proofs.Held.{held-more}
use Rattle.lf_doc.specs.Entries.{entry_of}
use Rattle.lf_doc.proofs.Tops.{object-held}
use Rattle.lf_doc.proofs.top.several_maps.Goals as goal

pub returns : goal.returns
returns c =
    let before = entry_of (option_map json_data c.args.context) in
    let maps = map json_data c.args.maps.items in
    let key : c.in_ok-key.key ≡ short_keyword c.args.inverse.now at_graph = c.in_ok-key.ensures ∙ ap (short_keyword c.args.inverse.now) c.graph_name.ensures in
    let value : json_data (j.List c.from_vec.result) ≡ array (items_of maps) = json_data-List c.from_vec.result ∙ ap (λ xs. array (items_of (map json_data xs))) c.from_vec.ensures in
    let held : Hold c.add.new.members (before ++ (c.in_ok-key.key, json_data (j.List c.from_vec.result)) ∷ []) =
    held-more c.in_ok-members.members c.add.new.members c.in_ok-key.key (json_data (j.List c.from_vec.result)) before c.in_ok-members.ensures c.in_ok-add.ensures
    in
    object-held c.object_of.result c.add.new.members (before ++ (short_keyword c.args.inverse.now at_graph, array (items_of maps)) ∷ [])
    (subst (λ e. Hold c.add.new.members (before ++ e ∷ [])) (λ i. (key i, value i)) held) c.object_of.ensures
