use Rattle.std.proofs.Common.{◌++◌, ◌∙◌, ap, sym, map}
use Rattle.std.proofs.lemmas.List.{map-append}
use Rattle.lf_model.specs.JsonBridge.{json_data}
use Rattle.def_documents.specs.Grouping.{elements_of}
use Rattle.lf_compact.proofs.Arrays.{list-elements}
use Rattle.lf_compact.proofs.members.push_elements.Goals as goal

pub returns-in_ok-append-in-List : goal.returns-in_ok-append-in-List
returns-in_ok-append-in-List c =
    let old = c.args.values.now.items in
    ap (map json_data) c.in_ok-append-in-List.ensures.items
    ∙ map-append json_data old c.into_vec-items.result.items
    ∙ ap (λ l. map json_data old ++ l) (ap (map json_data) c.into_vec-items.ensures ∙ sym (list-elements c.in-List.items))
    ∙ ap (λ v. map json_data old ++ elements_of (json_data v)) (sym c.in-List.is)
