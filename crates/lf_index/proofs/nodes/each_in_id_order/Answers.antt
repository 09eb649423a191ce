use Rattle.std.proofs.Common.{ap, ◌∙◌}
use Rattle.std.specs.List.{list_any}
use Rattle.std.proofs.lemmas.Result.{IfOk-weaker}
use Rattle.lf_rdf.specs.Equality.{term_eq}
use Rattle.def_datasets.proofs.OrderLaws.{id_strict}
use Rattle.lf_order.proofs.SetLemmas.{set_alike}
use Rattle.lf_index.proofs.nodes.each_in_id_order.Goals as goal

pub returns : goal.returns
returns c =
    let made = c.in_ok-with_ids.ensures ∙ c.as_slice.ensures.value in
    IfOk-weaker c.in_id_order.result _ _ (λ terms e.
    e ∙ set_alike id_strict _ _ (λ z.
    ap (list_any (term_eq z)) made
    ∙ (c.in_ok-each.ensures (term_eq z) ∙ c.in_ok-each_once.ensures (term_eq z)))
    ) c.in_id_order.ensures
