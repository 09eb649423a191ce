use Rattle.std.proofs.Common.{◌≡◌, length, arith}
use Rattle.std.proofs.lemmas.Bool.Decides.{nat_tests}
use Rattle.lf_http.proofs.Onward.{open_where_empty}
use Rattle.lf_http.proofs.reading.parse.Goals as goal

pub returns-then-is_empty-clause-open : goal.returns-then-is_empty-clause-open
returns-then-is_empty-clause-open c = λ _.
    let none : length c.args.bytes.now ≡ 0 = grind (arith, nat_tests) in
    open_where_empty c.args.bytes.now none
