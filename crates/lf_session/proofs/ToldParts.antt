-- Messages that stand in a row stand so in one way only.
use Rattle.std.proofs.Common.{◌≡◌, refl, sym, ◌∙◌, ap, arith, List, [], ◌∷◌, ◌++◌, length, ℕ, Result, Ok, All, append_assoc}
use Rattle.std.proofs.lemmas.List.Elements.{All-head}
use Rattle.httparse.specs.Grammar.{RequestHead, IsRequestHead, ReadsRequest, print_request}
use Rattle.httparse.proofs.GrammarLemmas.{request_unique}
use Rattle.lf_http.specs.declared.head.Head.{Head}
use Rattle.lf_http.specs.declared.head.HeadErr.{HeadErr}
use Rattle.lf_http.specs.Judge.{request_of, judged}
use Rattle.lf_http.proofs.Found.{nothing_read}
use Rattle.lf_session.specs.Whole.{Message, message_bytes, all_bytes, IsWholeMessage}

-- one head is judged once
pub judged-same : (result : Result Head HeadErr) (one two : Head) → result ≡ Ok one → result ≡ Ok two → one ≡ two
judged-same result one two first second = cc

-- two fronts of one length
pub front-same : (one two more rest : List ℕ) → length one ≡ length two → one ++ more ≡ two ++ rest → (one ≡ two) × (more ≡ rest)
front-same [] [] more rest len e = (refl, e)
front-same [] (b ∷ two) more rest len e = absurd (omega arith)
front-same (a ∷ one) [] more rest len e = absurd (omega arith)
front-same (a ∷ one) (b ∷ two) more rest len e =
    let heads : a ≡ b = cc in
    let tails : one ++ more ≡ two ++ rest = cc in
    let shorter : length one ≡ length two = omega arith in
    let same = front-same one two more rest shorter tails in
    (λ i. heads i ∷ same.0 i, same.1)

-- one message, and what follows it
pub message-same : (m : Message) (sent : RequestHead) (head : Head) (body more rest : List ℕ) → IsWholeMessage m
    → IsRequestHead sent → judged (request_of sent) ≡ Ok head → length body ≡ head.length
    → message_bytes m ++ more ≡ (print_request sent ++ body) ++ rest
    → (m ≡ record { sent = sent; head = head; body = body }) × (more ≡ rest)
message-same m sent head body more rest valid is_head accepted whole e =
    ((λ i. record { sent = heads.0 i; head = told i; body = bodies.0 i }), bodies.1)
  where
    heads : (m.sent ≡ sent) × (m.body ++ more ≡ body ++ rest)
    heads = request_unique (message_bytes m ++ more) m.sent sent (m.body ++ more) (body ++ rest)
        (valid.is_head, append_assoc (print_request m.sent) m.body more)
        (is_head, e ∙ append_assoc (print_request sent) body rest)

    told : m.head ≡ head
    told = judged-same (judged (request_of m.sent)) m.head head valid.accepted
        (ap (λ (h : RequestHead). judged (request_of h)) heads.0 ∙ accepted)

    bodies : (m.body ≡ body) × (more ≡ rest)
    bodies = front-same m.body body more rest (valid.whole ∙ (ap (λ (h : Head). h.length) told ∙ sym whole)) heads.1

-- no message is empty
pub some_bytes : (sent : RequestHead) (more : List ℕ) → IsRequestHead sent → [] ≡ print_request sent ++ more → ⊥
some_bytes sent more is_head e = nothing_read sent more (is_head, e)

pub none_left : (ms : List Message) → All IsWholeMessage ms → all_bytes ms ≡ [] → ms ≡ []
none_left [] valid e = refl
none_left (m ∷ ms) valid e =
    absurd (some_bytes m.sent (m.body ++ all_bytes ms) (All-head IsWholeMessage m ms valid).is_head
    (sym e ∙ append_assoc (print_request m.sent) m.body (all_bytes ms)))

pub both_nil : (one two : List ℕ) → [] ≡ one ++ two → (one ≡ []) × (two ≡ [])
both_nil [] two e = (refl, sym e)
both_nil (b ∷ one) two e = absurd cc

-- the first message, and what follows it
pub first_reads : (m : Message) (ms : List Message) (part : List ℕ) → IsWholeMessage m
    → ReadsRequest (all_bytes (m ∷ ms) ++ part) m.sent (m.body ++ (all_bytes ms ++ part))
first_reads m ms part whole = (
  whole.is_head,
  append_assoc (message_bytes m) (all_bytes ms) part ∙ append_assoc (print_request m.sent) m.body (all_bytes ms ++ part),
)
