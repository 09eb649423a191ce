use Rattle.std.proofs.Common.{◌∷◌, [], ◌++◌, ◌∙◌, ap, map, subst, sym}
use Rattle.lf_compact.specs.Groups.{Hold}
use Rattle.lf_compact.specs.Pieces.{filed_data, keyed}
use Rattle.lf_compact.proofs.Grouped.{hold-more}
use Rattle.lf_compact.proofs.Loops.{keyed-more}
use Rattle.lf_compact.proofs.Steps.{groups-empty}
use Rattle.lf_compact.proofs.property.by_key.Goals as goal

pub loop-value-init : goal.loop-value-init
loop-value-init c = groups-empty filed_data c.new-groups.result c.new-groups.ensures.empty

pub loop-value-preserved : goal.loop-value-preserved
loop-value-preserved c =
    let value = c.in-Some.value in
    let before = keyed (map filed_data c.loop-value.yielded) in
    subst (Hold filed_data c.put_under.new.groups)
    (ap (λ k. before ++ (k, filed_data value) ∷ []) c.in_ok-key.ensures ∙ sym (keyed-more c.loop-value.yielded value))
    (hold-more filed_data c.loop-value.groups c.put_under.new.groups c.in_ok-key.key value before c.loop-value.invariant c.in_ok-put_under.ensures)
