use Rattle.std.proofs.Common.{◌<◌, ◌*◌, ◌+◌, ◌^◌, sym, arith}
use Rattle.std.proofs.lemmas.Result.{err_from_is_err_and}
use Rattle.lf_nquads.proofs.Hex.{digits_fit}
use Rattle.lf_nquads.proofs.Readers.{digit_fails, digit_taken, digit_is_below, names_ok, names_bad}
use Rattle.lf_nquads.proofs.cursor.Cursor.numbered.Goals as goal

pub returns-in_err-digit : goal.returns-in_err-digit
returns-in_err-digit c =
    let p = err_from_is_err_and c.from_residual.result c.from_residual.ensures.1 in
    rw (p.1, p.2)
    (digit_fails c.in_err-digit.field-0.0 c.args.self.now c.loop-place._place c.loop-place.value c.args.count c.loop-place.self c.hex.new.self c.loop-place.invariant c.loop-place-test.true c.in_err-digit.ensures)

pub overflow_mul-value : goal.overflow_mul-value
overflow_mul-value c =
    let fits : c.loop-place.value * 16 + c.in_ok-digit.digit < 2 ^ 32 =
    digits_fit c.loop-place._place c.args.count c.loop-place.value c.in_ok-digit.digit c.loop-place-test.true c.requires c.loop-place.invariant.below
    (digit_is_below c.in_ok-digit.digit c.loop-place.self c.hex.new.self c.in_ok-digit.ensures) in
    omega arith

pub overflow_add-value : goal.overflow_add-value
overflow_add-value c =
    let fits : c.loop-place.value * 16 + c.in_ok-digit.digit < 2 ^ 32 =
    digits_fit c.loop-place._place c.args.count c.loop-place.value c.in_ok-digit.digit c.loop-place-test.true c.requires c.loop-place.invariant.below
    (digit_is_below c.in_ok-digit.digit c.loop-place.self c.hex.new.self c.in_ok-digit.ensures) in
    omega arith

pub loop-place-preserved : goal.loop-place-preserved
loop-place-preserved c =
    digit_taken c.args.self.now c.loop-place._place c.loop-place.value c.in_ok-digit.digit c.loop-place.self c.hex.new.self c.loop-place.invariant c.in_ok-digit.ensures

pub returns-in-Some : goal.returns-in-Some
returns-in-Some c =
    names_ok c.args.self.now c.args.count c.loop-place.value c.in-Some.c c.loop-place._place c.loop-place.self c.loop-place.invariant (omega arith)
    c.in-Some.ensures.value.0 (sym c.in-Some.ensures.value.1)

pub returns-in-None : goal.returns-in-None
returns-in-None c =
    names_bad c.args.self.now c.args.count c.loop-place.value c.loop-place._place c.loop-place.self c.loop-place.invariant (omega arith) c.in-None.ensures.value
