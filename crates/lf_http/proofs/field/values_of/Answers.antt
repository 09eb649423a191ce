use Rattle.std.proofs.Common.{◌∙◌, ap, sym, arith}
use Rattle.lf_http.specs.Fields.{same_name}
use Rattle.lf_http.proofs.FieldLines.{values-take_same, values-take_other, map-push}
use Rattle.lf_http.proofs.field.values_of.Goals as goal
use Rattle.lf_http.proofs.field.values_of.Goals.{then-is_same_name, else-is_same_name}

pub loop-line-preserved : goal.loop-line-preserved
loop-line-preserved c =
    elim c.if-is_same_name.branch [
      | then-is_same_name w ↦ (
        rw (w.found-is, w.push.ensures.items, map-push, c.loop-line.invariant.0)
            (sym (values-take_same c.args.buf.now c.args.name.now c.args.lines.now c.loop-line.line-index _ c.loop-line-test.true
            (ap (λ written. same_name written c.args.name.now) (sym c.bytes_of.ensures)
            ∙ sym c.is_same_name.ensures ∙ w.if-is_same_name.true))),
        rw w.found-is (omega arith),
      )
      | else-is_same_name w ↦ (
        rw (w.found-is, c.loop-line.invariant.0)
            (sym (values-take_other c.args.buf.now c.args.name.now c.args.lines.now c.loop-line.line-index _ c.loop-line-test.true
            (ap (λ written. same_name written c.args.name.now) (sym c.bytes_of.ensures)
            ∙ sym c.is_same_name.ensures ∙ w.if-is_same_name.false))),
        rw w.found-is (omega arith),
      )
    ]
