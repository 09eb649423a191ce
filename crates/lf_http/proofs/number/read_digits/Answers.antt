use Rattle.std.proofs.Common.{◌<◌, ◌≤◌, ◌^◌, length, arith}
use Rattle.std.proofs.lemmas.Bool.Decides.{nat_tests}
use Rattle.std.proofs.lemmas.Int.Digits.{digits_value_more}
use Rattle.lf_http.specs.Fields.{most_digits}
use Rattle.lf_http.proofs.Powers.{digit_more, digits_fit}
use Rattle.lf_http.proofs.number.read_digits.Goals as goal

pub overflow_mul-value : goal.overflow_mul-value
overflow_mul-value c =
    let short : length c.args.digits.now ≤ most_digits = grind (arith, nat_tests) in
    let fits : c.loop-digit.value < 10 ^ 17 = digits_fit c.loop-digit.value c.loop-digit.digit-index (omega arith) c.loop-digit.invariant.1 in
    omega arith

pub overflow_add-value : goal.overflow_add-value
overflow_add-value c =
    let short : length c.args.digits.now ≤ most_digits = grind (arith, nat_tests) in
    let fits : c.loop-digit.value < 10 ^ 17 = digits_fit c.loop-digit.value c.loop-digit.digit-index (omega arith) c.loop-digit.invariant.1 in
    omega arith

pub loop-digit-preserved : goal.loop-digit-preserved
loop-digit-preserved c = (
  rw (digits_value_more 10 c.args.digits.now c.loop-digit.digit-index c.loop-digit-test.true) (omega arith),
  digit_more c.loop-digit.value c.read_digit.result c.loop-digit.digit-index c.loop-digit.invariant.1 c.read_digit.ensures.small,
)
