-- Messages that stand in a row stand so in one way only.
use Rattle.std.proofs.Common.{◌≡◌, ◌≤◌, ◌∙◌, refl, sym, ap, subst, arith, List, [], ◌∷◌, ◌++◌, ℕ, length, take, drop, unwrap_or}
use Rattle.std.proofs.Math.Seq.{take-append_seam, drop-append_seam}
use Rattle.httparse.specs.Grammar.{RequestHead}
use Rattle.httparse.proofs.GrammarLemmas.{request_unique}
use Rattle.lf_http.specs.Judge.{request_of, told_length}
use Rattle.lf_http.specs.Readings.{Message, ReadsMessage, ReadsMessages}

-- two fronts of one length
front-same : (one two more rest : List ℕ) → length one ≡ length two → one ++ more ≡ two ++ rest → (one ≡ two) × (more ≡ rest)
front-same one two more rest len same = (
  sym (take-append_seam one more) ∙ ap (λ (all : List ℕ). take (length one) all) same
      ∙ ap (λ (n : ℕ). take n (two ++ rest)) len ∙ take-append_seam two rest,
  sym (drop-append_seam one more) ∙ ap (λ (all : List ℕ). drop (length one) all) same
      ∙ ap (λ (n : ℕ). drop n (two ++ rest)) len ∙ drop-append_seam two rest,
)

-- one message, and what follows it
message-same : (bytes : List ℕ) (m n : Message) (rest more : List ℕ)
    → ReadsMessage bytes m rest → ReadsMessage bytes n more → (m ≡ n) × (rest ≡ more)
message-same bytes m n rest more one two =
    let heads = request_unique bytes m.head n.head (m.body ++ rest) (n.body ++ more) one.0 two.0 in
    let len : length m.body ≡ length n.body =
    one.1 ∙ ap (λ (h : RequestHead). unwrap_or (told_length (request_of h)) 0) heads.0 ∙ sym two.1 in
    let bodies = front-same m.body n.body rest more len heads.1 in
    ((λ i. record { head = heads.0 i; body = bodies.0 i }), bodies.1)

pub streams_are_one : (bytes : List ℕ) (ms ns : List Message) (rest more : List ℕ)
    → ReadsMessages bytes ms rest → ReadsMessages bytes ns more → length ms ≤ length ns
    → (behind : List Message) × (ns ≡ ms ++ behind) × ReadsMessages rest behind more
streams_are_one bytes [] ns rest more one two fewer = (ns, refl, subst (λ (b : List ℕ). ReadsMessages b ns more) one two)
streams_are_one bytes (m ∷ ms) [] rest more one two fewer = absurd (omega arith)
streams_are_one bytes (m ∷ ms) (n ∷ ns) rest more (behind, first, later) (other, second, last) fewer =
    let same = message-same bytes m n behind other first second in
    let next = streams_are_one behind ms ns rest more later
    (subst (λ (b : List ℕ). ReadsMessages b ns more) (sym same.1) last) (omega arith) in
    (next.0, (λ i. sym same.0 i ∷ next.1 i), next.2)
