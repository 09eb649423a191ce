-- Before whole messages no head is refused, and no message is cut. Behind them it is as the tail says.
use Rattle.std.proofs.Common.{◌≡◌, refl, sym, ◌∙◌, ap, subst, arith, ◌+◌, ◌<◌, ◌⊎◌, inl, inr, List, [], ◌∷◌, ◌++◌, length, ℕ, Option, Result, ◌≤◌, Bool, true, false, cond, nat_lt, unwrap_or, codes, Some, Ok, Err, All, IsTrue, append_assoc}
use Rattle.std.proofs.lemmas.List.{append-nil, length-append}
use Rattle.std.proofs.lemmas.List.Elements.{All-head, All-nil, All-cons}
use Rattle.std.specs.Char.{encode_utf8}
use Rattle.httparse.specs.Grammar.{RequestHead, IsRequestHead, ReadsRequest, print_request, is_token_byte, is_uri_byte, IsField, lf}
use Rattle.httparse.specs.Spans.{RequestOverflows, RequestExceeds}
use Rattle.httparse.proofs.GrammarLemmas.{request_unique}
use Rattle.lf_io.specs.Bytes.{HasEnded}
use Rattle.lf_http.specs.declared.head.Head.{Head}
use Rattle.lf_http.specs.declared.head.HeadErr.{HeadErr}
use Rattle.lf_http.specs.declared.head.HeadErr.TheVariants as h
use Rattle.lf_http.specs.Judge.{Request, request_of, judged, is_bad, needs_length, told_length, has_line, longest_body}
use Rattle.lf_http.specs.Reading.{IsOpen, LacksHead, IsRefused, longest_head, most_lines}
use Rattle.lf_http.proofs.Found.{nothing_read, found-refused}
use Rattle.lf_session.specs.Replies.{Reply, refusal}
use Rattle.lf_session.specs.Session.{IsBodyCut}
use Rattle.lf_session.specs.Whole.{Message, message_bytes, all_bytes, IsWholeMessage}
use Rattle.lf_session.specs.Told.{Tail, no_tail, cut_message, cut_head, refused_head, IsTail, IsCleanTail, IsCutTail, IsBadTail}
use Rattle.lf_session.proofs.ToldParts.{judged-same, some_bytes, both_nil, first_reads, message-same}

-- a short request
abbrev shortest : RequestHead
shortest = record { blank = []; method = 71 ∷ []; target = 47 ∷ []; minor = 1; line_end = lf; fields = []; last = lf }

shortest-is : IsRequestHead shortest
unfolding is_token_byte encode_utf8
shortest-is = record {
  method = (omega arith, All-cons (λ b. IsTrue (is_token_byte b)) 71 [] refl (All-nil (λ b. IsTrue (is_token_byte b))));
  target = (omega arith, All-cons (λ b. IsTrue (is_uri_byte b)) 47 [] refl (All-nil (λ b. IsTrue (is_uri_byte b))));
  target_text = (47 ∷ [], (refl, refl));
  minor = omega arith;
  fields = All-nil IsField;
}

shortest-read : ReadsRequest ([] ++ print_request shortest) shortest []
shortest-read = (shortest-is, sym (append-nil (print_request shortest)))

no_bytes : (n : ℕ) → n ≡ 0 → n ≡ longest_head → ⊥
no_bytes n none some = omega arith

-- no bytes are no cause to refuse a head
nothing_lacks : (e : HeadErr) (reply : Reply) → refusal e ≡ Some reply → LacksHead [] (Some []) e → ⊥
nothing_lacks h.ReadFault reply is lacks = cc
nothing_lacks h.CutShort reply is lacks = lacks.0 refl
nothing_lacks h.TooLarge reply is lacks = over lacks
  where
    over : ((length {A = ℕ} [] ≡ longest_head) × IsOpen []) ⊎ (RequestExceeds most_lines [] × RequestOverflows most_lines []) → ⊥
    over (inl full) = no_bytes 0 refl full.0
    over (inr many) = let lines : 64 < 0 = many.1 (print_request shortest) shortest [] shortest-read in omega arith
nothing_lacks h.BadHead reply is lacks = lacks (print_request shortest) shortest [] shortest-read
nothing_lacks h.LengthNeeded reply is lacks = lacks
nothing_lacks h.BodyTooLong reply is lacks = lacks
nothing_lacks h.Expectation reply is lacks = lacks

nothing_refused : (e : HeadErr) (reply : Reply) → refusal e ≡ Some reply → IsRefused [] (Some []) e → ⊥
nothing_refused e reply is (inl lacks) = nothing_lacks e reply is lacks
nothing_refused e reply is (inr (head, rest, reads, why)) = nothing_read head rest reads

not_fault : (e : HeadErr) (reply : Reply) → refusal e ≡ Some reply → e ≡ h.ReadFault → ⊥
not_fault e reply is fault = let none : refusal h.ReadFault ≡ Some reply = subst (λ (x : HeadErr). refusal x ≡ Some reply) fault is in cc

-- a refusal that is sent doesn't hang on what is left
lacks-other : (bytes : List ℕ) (one two : Option (List ℕ)) (e : HeadErr) (reply : Reply) → refusal e ≡ Some reply
    → LacksHead bytes one e → LacksHead bytes two e
lacks-other bytes one two h.ReadFault reply is lacks = lacks
lacks-other bytes one two h.CutShort reply is lacks = absurd cc
lacks-other bytes one two h.TooLarge reply is lacks = lacks
lacks-other bytes one two h.BadHead reply is lacks = lacks
lacks-other bytes one two h.LengthNeeded reply is lacks = lacks
lacks-other bytes one two h.BodyTooLong reply is lacks = lacks
lacks-other bytes one two h.Expectation reply is lacks = lacks

refused-other : (bytes : List ℕ) (one two : Option (List ℕ)) (e : HeadErr) (reply : Reply) → refusal e ≡ Some reply
    → IsRefused bytes one e → IsRefused bytes two e
refused-other bytes one two e reply is (inl lacks) = inl (lacks-other bytes one two e reply is lacks)
refused-other bytes one two e reply is (inr has) = inr has

-- a head isn't both accepted and refused
no_both : (result : Result Head HeadErr) (head : Head) (e : HeadErr) → result ≡ Ok head → result ≡ Err e → ⊥
no_both result head e accepted refused = cc

one_refusal : (result : Result Head HeadErr) (one two : HeadErr) → result ≡ Err one → result ≡ Err two → one ≡ two
one_refusal result one two first second = cc

-- where all was read
all-read : (bytes rest more : List ℕ) → bytes ≡ rest ++ more → HasEnded (Some more) → bytes ≡ rest
all-read bytes rest more told done = told ∙ (ap (λ (m : List ℕ). rest ++ m) done ∙ append-nil rest)

-- the bytes with those that they lack
filled : (part rest more lacking all : List ℕ) → part ++ lacking ≡ all → part ≡ rest ++ more → all ≡ rest ++ (more ++ lacking)
filled part rest more lacking all is told =
    sym is ∙ (ap (λ (p : List ℕ). p ++ lacking) told ∙ append_assoc rest more lacking)

-- ---- in a head that is cut

-- no head stands there
none_in_head : (k : RequestHead) (part lacking : List ℕ) (sent : RequestHead) (more : List ℕ) → IsRequestHead k → (lacking ≡ [] → ⊥)
    → part ++ lacking ≡ print_request k → IsRequestHead sent → part ≡ print_request sent ++ more → ⊥
none_in_head k part lacking sent more valid some is is_head spelled =
    some (both_nil more lacking
    (request_unique (print_request k) k sent [] (more ++ lacking)
    (valid, sym (append-nil (print_request k)))
    (is_head, sym is ∙ (ap (λ (p : List ℕ). p ++ lacking) spelled ∙ append_assoc (print_request sent) more lacking))).1).1

from_cond : (b : Bool) (e : HeadErr) (more : Result Head HeadErr) → cond b (Err e) more ≡ Err h.TooLarge → (e ≡ h.TooLarge → ⊥)
    → (more ≡ Err h.TooLarge → ⊥) → ⊥
from_cond true e more is other later = other cc
from_cond false e more is other later = later is

-- a whole head isn't refused as too large
not_large : (request : Request) → judged request ≡ Err h.TooLarge → ⊥
not_large request is =
    from_cond (is_bad request) h.BadHead _ is (λ e. cc)
    (λ e. from_cond (needs_length request) h.LengthNeeded _ e (λ e2. cc)
    (λ e2. from_cond (nat_lt longest_body (unwrap_or (told_length request) 0)) h.BodyTooLong _ e2 (λ e3. cc)
    (λ e3. from_cond (has_line request (codes "expect")) h.Expectation _ e3 (λ e4. cc) (λ e4. cc))))

lacks-in_head : (k : RequestHead) (rest more : List ℕ) (e : HeadErr) (reply : Reply) → IsRequestHead k
    → length (print_request k) ≤ longest_head → length k.fields ≤ most_lines → print_request k ≡ rest ++ more → refusal e ≡ Some reply
    → LacksHead rest (Some more) e → ⊥
lacks-in_head k rest more h.ReadFault reply valid short few is says lacks = cc
lacks-in_head k rest more h.CutShort reply valid short few is says lacks = cc
lacks-in_head k rest more h.TooLarge reply valid short few is says lacks =
    not_large (request_of k)
    (found-refused (print_request k) [] rest more k h.TooLarge is (valid, sym (append-nil (print_request k))) short few (λ e. cc) (inl lacks))
lacks-in_head k rest more h.BadHead reply valid short few is says lacks =
    lacks more k [] (valid, sym is ∙ sym (append-nil (print_request k)))
lacks-in_head k rest more h.LengthNeeded reply valid short few is says lacks = lacks
lacks-in_head k rest more h.BodyTooLong reply valid short few is says lacks = lacks
lacks-in_head k rest more h.Expectation reply valid short few is says lacks = lacks

-- ---- in the tail

-- no whole message stands there
pub no_message : (tail : Tail) (part : List ℕ) (sent : RequestHead) (head : Head) (body rest : List ℕ) → IsTail tail part
    → IsRequestHead sent → judged (request_of sent) ≡ Ok head → length body ≡ head.length
    → part ≡ (print_request sent ++ body) ++ rest → ⊥
no_message no_tail part sent head body rest is is_head accepted whole e =
    some_bytes sent (body ++ rest) is_head (sym is ∙ (e ∙ append_assoc (print_request sent) body rest))
no_message (cut_message m lacking) part sent head body rest is is_head accepted whole e =
    is.2 (both_nil rest lacking
    (message-same m sent head body [] (rest ++ lacking) is.0 is_head accepted whole
    (append-nil (message_bytes m) ∙ filled part (print_request sent ++ body) rest lacking (message_bytes m) is.3 e)).1).1
no_message (cut_head k lacking) part sent head body rest is is_head accepted whole e =
    none_in_head k part lacking sent (body ++ rest) is.0 is.4 is.5 is_head (e ∙ append_assoc (print_request sent) body rest)
no_message (refused_head k e) part sent head body rest is is_head accepted whole spelled =
    let same = request_unique part sent k (body ++ rest) is.0 (is_head, spelled ∙ append_assoc (print_request sent) body rest) is.1 in
    no_both (judged (request_of k)) head e (ap (λ (r : RequestHead). judged (request_of r)) (sym same.0) ∙ accepted) is.4

pub empty_tail : (tail : Tail) (part : List ℕ) → IsTail tail part → part ≡ [] → IsCleanTail tail
empty_tail no_tail part is none = tt
empty_tail (cut_message m lacking) part is none = is.1 none
empty_tail (cut_head k lacking) part is none = is.3 none
empty_tail (refused_head k e) part is none =
    nothing_read k is.0 (subst (λ (p : List ℕ). ReadsRequest p k is.0) none is.1)

tail_refused : (tail : Tail) (part rest more : List ℕ) (e : HeadErr) (reply : Reply) → IsTail tail part → part ≡ rest ++ more
    → refusal e ≡ Some reply → IsRefused rest (Some more) e → IsBadTail reply.status tail
tail_refused no_tail part rest more e reply tail told is why =
    let nil = both_nil rest more (sym tail ∙ told) in
    nothing_refused e reply is (subst (λ (m : List ℕ). IsRefused [] (Some m) e) nil.1
    (subst (λ (r : List ℕ). IsRefused r (Some more) e) nil.0 why))
tail_refused (cut_message m lacking) part rest more e reply tail told is why =
    no_both (judged (request_of m.sent)) m.head e tail.0.accepted
    (found-refused (message_bytes m) m.body rest (more ++ lacking) m.sent e
    (filled part rest more lacking (message_bytes m) tail.3 told)
    (tail.0.is_head, refl) tail.0.short tail.0.few (not_fault e reply is)
    (refused-other rest (Some more) (Some (more ++ lacking)) e reply is why))
tail_refused (cut_head k lacking) part rest more e reply tail told is (inl lacks) =
    lacks-in_head k rest (more ++ lacking) e reply tail.0 tail.1 tail.2 (filled part rest more lacking (print_request k) tail.5 told) is
    (lacks-other rest (Some more) (Some (more ++ lacking)) e reply is lacks)
tail_refused (cut_head k lacking) part rest more e reply tail told is (inr (head, left, reads, why)) =
    none_in_head k part lacking head (left ++ more) tail.0 tail.4 tail.5 reads.0
    (told ∙ (ap (λ (r : List ℕ). r ++ more) reads.1 ∙ append_assoc (print_request head) left more))
tail_refused (refused_head k other) part rest more e reply tail told is why =
    let refused = found-refused part tail.0 rest more k e told tail.1 tail.2 tail.3 (not_fault e reply is) why in
    (reply, ap refusal (one_refusal (judged (request_of k)) other e tail.4 refused) ∙ is, refl)

tail_cut : (tail : Tail) (part rest more : List ℕ) → IsTail tail part → part ≡ rest ++ more
    → LacksHead rest (Some more) h.CutShort ⊎ (IsBodyCut rest × HasEnded (Some more)) → IsCutTail tail
tail_cut no_tail part rest more tail told (inl lacks) = lacks.0 (both_nil rest more (sym tail ∙ told)).0
tail_cut no_tail part rest more tail told (inr cut) =
    some_bytes cut.0.sent cut.0.body cut.0.is_head (sym (both_nil rest more (sym tail ∙ told)).0 ∙ cut.0.spelled)
tail_cut (cut_message m lacking) part rest more tail told why = tt
tail_cut (cut_head k lacking) part rest more tail told why = tt
tail_cut (refused_head k e) part rest more tail told (inl lacks) =
    lacks.1.0 k tail.0 (subst (λ (p : List ℕ). ReadsRequest p k tail.0) (all-read part rest more told lacks.2) tail.1)
tail_cut (refused_head k e) part rest more tail told (inr cut) =
    let same = request_unique part cut.0.sent k cut.0.body tail.0 (cut.0.is_head, all-read part rest more told cut.1 ∙ cut.0.spelled) tail.1 in
    no_both (judged (request_of k)) cut.0.head e (ap (λ (r : RequestHead). judged (request_of r)) (sym same.0) ∙ cut.0.accepted) tail.4

-- ---- before a message

none_refused : (m : Message) (ms : List Message) (part rest more : List ℕ) (e : HeadErr) (reply : Reply) → IsWholeMessage m
    → all_bytes (m ∷ ms) ++ part ≡ rest ++ more → refusal e ≡ Some reply → IsRefused rest (Some more) e → ⊥
none_refused m ms part rest more e reply one told is why =
    no_both (judged (request_of m.sent)) m.head e one.accepted
    (found-refused (all_bytes (m ∷ ms) ++ part) (m.body ++ (all_bytes ms ++ part)) rest more m.sent e told
    (first_reads m ms part one) one.short one.few (not_fault e reply is) why)

none_lacks : (m : Message) (ms : List Message) (part rest more : List ℕ) → IsWholeMessage m
    → all_bytes (m ∷ ms) ++ part ≡ rest ++ more → LacksHead rest (Some more) h.CutShort → ⊥
none_lacks m ms part rest more one told lacks =
    lacks.1.0 m.sent (m.body ++ (all_bytes ms ++ part))
    (subst (λ (r : List ℕ). ReadsRequest r m.sent (m.body ++ (all_bytes ms ++ part)))
    (all-read (all_bytes (m ∷ ms) ++ part) rest more told lacks.2) (first_reads m ms part one))

none_cut : (m : Message) (ms : List Message) (part rest more : List ℕ) → IsWholeMessage m
    → all_bytes (m ∷ ms) ++ part ≡ rest ++ more → IsBodyCut rest × HasEnded (Some more) → ⊥
none_cut m ms part rest more one told cut = no_room
  where
    heads : (m.sent ≡ cut.0.sent) × (m.body ++ (all_bytes ms ++ part) ≡ cut.0.body)
    heads = request_unique (all_bytes (m ∷ ms) ++ part) m.sent cut.0.sent (m.body ++ (all_bytes ms ++ part)) cut.0.body
        (first_reads m ms part one)
        (cut.0.is_head, all-read (all_bytes (m ∷ ms) ++ part) rest more told cut.1 ∙ cut.0.spelled)

    told_head : m.head ≡ cut.0.head
    told_head = judged-same (judged (request_of m.sent)) m.head cut.0.head one.accepted
        (ap (λ (k : RequestHead). judged (request_of k)) heads.0 ∙ cut.0.accepted)

    no_room : ⊥
    no_room =
        let sum : length (m.body ++ (all_bytes ms ++ part)) ≡ length m.body + length (all_bytes ms ++ part) = length-append m.body (all_bytes ms ++ part) in
        let same : length (m.body ++ (all_bytes ms ++ part)) ≡ length cut.0.body = ap (λ (b : List ℕ). length b) heads.1 in
        let full : length m.body ≡ m.head.length = one.whole in
        let long : m.head.length ≡ cut.0.head.length = ap (λ (k : Head). k.length) told_head in
        let lacking : length cut.0.body < cut.0.head.length = cut.0.lacking in
        omega arith

-- ---- behind some messages

pub refused-behind : (tail : Tail) (behind : List Message) (part rest more : List ℕ) (e : HeadErr) (reply : Reply)
    → All IsWholeMessage behind → IsTail tail part → all_bytes behind ++ part ≡ rest ++ more
    → refusal e ≡ Some reply → IsRefused rest (Some more) e → (behind ≡ []) × IsBadTail reply.status tail
refused-behind tail [] part rest more e reply valid is_tail told is why = (refl, tail_refused tail part rest more e reply is_tail told is why)
refused-behind tail (m ∷ ms) part rest more e reply valid is_tail told is why =
    absurd (none_refused m ms part rest more e reply (All-head IsWholeMessage m ms valid) told is why)

pub cut-behind : (tail : Tail) (behind : List Message) (part rest more : List ℕ)
    → All IsWholeMessage behind → IsTail tail part → all_bytes behind ++ part ≡ rest ++ more
    → LacksHead rest (Some more) h.CutShort ⊎ (IsBodyCut rest × HasEnded (Some more)) → (behind ≡ []) × IsCutTail tail
cut-behind tail [] part rest more valid is_tail told why = (refl, tail_cut tail part rest more is_tail told why)
cut-behind tail (m ∷ ms) part rest more valid is_tail told (inl lacks) =
    absurd (none_lacks m ms part rest more (All-head IsWholeMessage m ms valid) told lacks)
cut-behind tail (m ∷ ms) part rest more valid is_tail told (inr cut) =
    absurd (none_cut m ms part rest more (All-head IsWholeMessage m ms valid) told cut)
