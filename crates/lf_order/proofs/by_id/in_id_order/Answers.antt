use Rattle.std.proofs.Common.{◌∙◌}
use Rattle.std.proofs.lemmas.Result.{IfOk-weaker}
use Rattle.def_datasets.proofs.OrderLaws.{id_strict}
use Rattle.lf_order.proofs.SetLemmas.{sorted_set_of}
use Rattle.lf_order.proofs.by_id.in_id_order.Goals as goal

pub returns : goal.returns
returns c =
    IfOk-weaker c.terms_of.result _ _ (λ made e. e ∙ sorted_set_of id_strict _ _ c.in_ok-sorted_set.ensures.ascends c.in_ok-sorted_set.ensures.members) c.terms_of.ensures
