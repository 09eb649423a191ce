-- A head that is accepted has no body past the limit, so a patch text can be read.
use Rattle.std.proofs.Common.{◌≡◌, ◌≤◌, ap, subst, ℕ, nat_lt, unwrap_or, Result, Ok, Err}
use Rattle.std.proofs.lemmas.Bool.{ltb-false}
use Rattle.std.specs.Prelude.{codes}
use Rattle.lf_http.specs.declared.head.Head.{Head}
use Rattle.lf_http.specs.declared.head.HeadErr.{HeadErr}
use Rattle.lf_http.specs.Judge.{Request, judged, is_bad, needs_length, longest_body, told_length, has_line}
use Rattle.lf_desk.proofs.Passing.{past}

length_in : Result Head HeadErr → ℕ
length_in (Ok head) = head.length
length_in (Err e) = 0

pub accepted_short : (request : Request) (head : Head) → judged request ≡ Ok head → head.length ≤ longest_body
unfolding length_in
accepted_short request head accepted =
    let one = past (is_bad request) _ head _ accepted in
    let two = past (needs_length request) _ head _ one.1 in
    let three = past (nat_lt longest_body (unwrap_or (told_length request) 0)) _ head _ two.1 in
    let four = past (has_line request (codes "expect")) _ head _ three.1 in
    subst (λ (n : ℕ). n ≤ longest_body) (ap length_in four.1) (ltb-false longest_body (unwrap_or (told_length request) 0) three.0)
