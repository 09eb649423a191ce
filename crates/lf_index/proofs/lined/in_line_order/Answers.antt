use Rattle.std.proofs.Common.{◌∙◌}
use Rattle.std.proofs.lemmas.Result.{IfOk-weaker}
use Rattle.def_datasets.proofs.OrderLaws.{quad_strict}
use Rattle.lf_order.proofs.SetLemmas.{sorted_set_of}
use Rattle.lf_index.proofs.lined.in_line_order.Goals as goal

pub returns : goal.returns
returns c =
    let near = c.in_ok-nearly_sorted.ensures in
    IfOk-weaker c.quads_of.result _ _ (λ made e.
    e
    ∙ (c.as_slice.ensures.value
    ∙ sorted_set_of quad_strict _ _ c.in_ok-lined.ensures.ascends (λ test ties. c.in_ok-lined.ensures.members test ties ∙ near test))
    ) c.quads_of.ensures
