use Rattle.std.proofs.Common.{ap, ◌∙◌}
use Rattle.std.proofs.lemmas.Result.{IfOk-weaker}
use Rattle.def_datasets.specs.Sorted.{set_of}
use Rattle.def_datasets.specs.Order.{id_cmp}
use Rattle.def_datasets.specs.Terms.{terms}
use Rattle.lf_index.proofs.ApplyLemmas.{terms_told}
use Rattle.lf_index.proofs.index.Index.terms.Goals as goal

pub returns : goal.returns
returns c =
    IfOk-weaker c.each_in_id_order.result _ _ (λ found e.
    e ∙ (ap (set_of id_cmp) c.in_ok-nodes_of.ensures ∙ (terms_told c.self.inside.by_subject ∙ ap terms c.self.view_is))
    ) c.each_in_id_order.ensures
