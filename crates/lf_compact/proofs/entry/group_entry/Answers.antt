use Rattle.std.proofs.Common.{◌≡◌, false, ◌∙◌, ap, map}
use Rattle.lf_model.specs.JsonBridge.{json_data}
use Rattle.def_documents.specs.Entries.{group_container, group_elements, is_set, language_map}
use Rattle.def_documents.specs.Grouping.{alone_or_array}
use Rattle.lf_compact.specs.Pieces.{filed_data}
use Rattle.lf_compact.proofs.entry.group_entry.Goals as goal

pub returns : goal.returns
returns c =
    let all = map filed_data c.args.group.items in
    let flag : c.is_set-in_array.result ≡ is_set (group_container all) =
    c.is_set-in_array.ensures ∙ ap is_set (c.group_container.ensures ∙ ap (λ l. group_container (map filed_data l)) c.as_slice.ensures.value) in
    let made : map json_data c.in_ok-elements.elements.items ≡ group_elements (language_map all) false all =
    c.in_ok-elements.ensures (language_map all) (c.in_ok-languages.ensures ∙ ap (λ l. language_map (map filed_data l)) c.as_slice-2.ensures.value) in
    c.alone_or_array.ensures ∙ (λ i. alone_or_array (flag i) (made i))
