use Rattle.std.proofs.Common.{ap, ◌∙◌}
use Rattle.lf_sorted.specs.Entries.{put_entry}
use Rattle.lf_model.specs.JsonBridge.{json_data, members_data}
use Rattle.lf_model.specs.JsonData.{object}
use Rattle.lf_model.proofs.JsonLemmas.{json_data-Map}
use Rattle.def_selection.specs.Keywords.{at_context}
use Rattle.lf_doc.proofs.Tops.{map-with}
use Rattle.lf_doc.proofs.top.with_context.Goals as goal

pub returns : goal.returns
returns c =
    let ms = c.args.members in
    let v = c.in_ok-context.context in
    json_data-Map c.put.new.self
    ∙ ap (λ es. object (members_data es)) (c.in_ok-put.ensures.ok ∙ ap (λ k. put_entry k v ms) c.in_ok-context_key.ensures)
    ∙ map-with ms at_context v (json_data c.args.context) c.as_slice.ensures.order c.in_ok-context.ensures
