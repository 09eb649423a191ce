-- A stream is served request by request.
use Rattle.std.proofs.Common.{◌≡◌, ◌<◌, ◌≤◌, ◌∙◌, refl, sym, ap, subst, inl, inr, List, [], ◌++◌, ℕ, Bool, true, false, cond, length, take, Option, Some, None, Result, Ok, Err, append_assoc}
use Rattle.std.proofs.lemmas.Bool.{false≢true}
use Rattle.httparse.specs.Grammar.{RequestHead, IsRequestHead, print_request}
use Rattle.lf_io.specs.Bytes.{prepended, appended, AddsPart, HasEnded}
use Rattle.lf_io.proofs.Told.{prepended_twice, prepended_nothing, appended_nothing}
use Rattle.lf_http.specs.declared.head.Head.{Head}
use Rattle.lf_http.specs.declared.head.HeadErr.{HeadErr}
use Rattle.lf_http.specs.declared.head.HeadErr.TheVariants as h
use Rattle.lf_http.specs.Judge.{request_of, judged, is_bad, needs_length, head_of}
use Rattle.lf_http.specs.Reading.{LacksHead, IsRefused, longest_head, most_lines, name_of}
use Rattle.def_histories.specs.declared.operation.Operation.{Operation}
use Rattle.lf_session.specs.declared.ended.Ended.{Ended}
use Rattle.lf_session.specs.declared.ended.Ended.TheVariants as ended
use Rattle.def_histories.specs.Legal.{IsLegal}
use Rattle.lf_frames.specs.FrameTexts.{is_frame}
use Rattle.lf_session.specs.Replies.{Reply, reply_bytes}
use Rattle.lf_session.specs.Answers.{IsAnswered}
use Rattle.lf_session.specs.Steps.{IsStep}
use Rattle.lf_session.specs.Requests.{asked_by}
use Rattle.lf_session.specs.Boards.{Boards, StaysOut}
use Rattle.lf_session.specs.Moving.{Moves}
use Rattle.lf_session.specs.Exchanges.{Exchange, IsExchange, needed}
use Rattle.lf_session.specs.Session.{Last, nothing, request, refused, cut, faulted, no_room, no_buffers, due, IsBodyCut, IsFirstRefusal, IsLast, EndsBy}
use Rattle.lf_session.specs.Served.{Ends, Serves, boards_behind, last_of, SendsLast, SendsReply, Replies}

-- the whole of what is due was sent, or a part
pub sends_whole : (last : Last) (held_before held_after : Option (List ℕ)) (e : Ended)
    → held_after ≡ appended held_before (due last) → EndsBy last (due last) e → SendsLast last held_before held_after e
sends_whole last held_before held_after e wrote by = record { sent = due last; writes = wrote; ends = by }

pub sends_part : (last : Last) (held_before held_after : Option (List ℕ))
    → AddsPart held_before held_after (due last) → SendsLast last held_before held_after ended.WriteFault
sends_part last held_before held_after (n, short, wrote) =
    record { sent = take n (due last); writes = wrote; ends = (n, short, refl) }

is_no_buffers : Last → Bool
is_no_buffers nothing = false
is_no_buffers (request x) = false
is_no_buffers (refused e reply) = false
is_no_buffers cut = false
is_no_buffers faulted = false
is_no_buffers (no_room head) = false
is_no_buffers no_buffers = true

is_other : (x : Exchange) → is_no_buffers (request x) ≡ false
unfolding is_no_buffers
is_other x = refl

other : (last : Last) → is_no_buffers last ≡ false → last ≡ no_buffers → ⊥
unfolding is_no_buffers
other last e same = false≢true (sym e ∙ ap is_no_buffers same)

-- the input ended between messages
pub ends_clean : (alone : Bool) (boards : Boards) (seat need : ℕ) (history : List Operation) (left0 left1 held : Option (List ℕ)) (pending : List ℕ)
    → prepended pending left0 ≡ left1 → HasEnded left1
    → Ends alone boards boards seat need history history record { left_before = left0; left_after = left1; held_before = held; held_after = held } pending ended.Clean
unfolding is_no_buffers
ends_clean alone boards seat need history left0 left1 held pending e end =
    record {
      last = nothing;
      rest = [];
      sent = [];
      reads = e ∙ sym (prepended_nothing left1);
      writes = sym (appended_nothing held);
      stands = (refl, end, refl);
      ends = (refl, refl);
      moves = refl;
      read_some = other nothing refl;
    }

-- a judged head is never cut, and no read failed in it
is_open : Result Head HeadErr → Bool
is_open (Ok head) = false
is_open (Err h.CutShort) = true
is_open (Err h.ReadFault) = true
is_open (Err h.TooLarge) = false
is_open (Err h.BadHead) = false
is_open (Err h.LengthNeeded) = false
is_open (Err h.BodyTooLong) = false
is_open (Err h.Expectation) = false

not_open : (a b c d : Bool) (head : Head) (e : HeadErr) → is_open (Err e) ≡ true
    → cond a (Err h.BadHead) (cond b (Err h.LengthNeeded) (cond c (Err h.BodyTooLong) (cond d (Err h.Expectation) (Ok head)))) ≡ Err e → ⊥
unfolding is_open
not_open true b c d head e open_too is = false≢true (ap is_open is ∙ open_too)
not_open false true c d head e open_too is = false≢true (ap is_open is ∙ open_too)
not_open false false true d head e open_too is = false≢true (ap is_open is ∙ open_too)
not_open false false false true head e open_too is = false≢true (ap is_open is ∙ open_too)
not_open false false false false head e open_too is = false≢true (ap is_open is ∙ open_too)

-- such a refusal is one of bytes without a whole head
lacks_only : (rest : List ℕ) (left : Option (List ℕ)) (e : HeadErr) → is_open (Err e) ≡ true → IsRefused rest left e → LacksHead rest left e
lacks_only rest left e open_too (inl lacks) = lacks
lacks_only rest left e open_too (inr (k, more, reads, why)) =
    absurd (not_open (is_bad (request_of k)) (needs_length (request_of k)) _ _ (head_of (request_of k)) e open_too why)

stands : (alone : Bool) (boards : Boards) (seat need : ℕ) (history : List Operation) (rest : List ℕ) (left : Option (List ℕ)) (e : HeadErr)
    → IsRefused rest left e → IsFirstRefusal rest e → IsLast alone boards seat need history rest left (last_of e) history
unfolding is_open
stands alone boards seat need history rest left h.ReadFault is first = (inl (lacks_only rest left h.ReadFault refl is), refl)
stands alone boards seat need history rest left h.CutShort is first = (inl (lacks_only rest left h.CutShort refl is), refl)
stands alone boards seat need history rest left h.TooLarge is first = (refl, is, first, refl)
stands alone boards seat need history rest left h.BadHead is first = (refl, is, first, refl)
stands alone boards seat need history rest left h.LengthNeeded is first = (refl, is, first, refl)
stands alone boards seat need history rest left h.BodyTooLong is first = (refl, is, first, refl)
stands alone boards seat need history rest left h.Expectation is first = (refl, is, first, refl)

last_is_other : (e : HeadErr) → is_no_buffers (last_of e) ≡ false
unfolding is_no_buffers
last_is_other h.ReadFault = refl
last_is_other h.CutShort = refl
last_is_other h.TooLarge = refl
last_is_other h.BadHead = refl
last_is_other h.LengthNeeded = refl
last_is_other h.BodyTooLong = refl
last_is_other h.Expectation = refl

behind-refused : (boards : Boards) (e : HeadErr) → boards ≡ boards_behind boards (last_of e)
behind-refused boards h.ReadFault = refl
behind-refused boards h.CutShort = refl
behind-refused boards h.TooLarge = refl
behind-refused boards h.BadHead = refl
behind-refused boards h.LengthNeeded = refl
behind-refused boards h.BodyTooLong = refl
behind-refused boards h.Expectation = refl

-- a head was refused
pub ends_refused : (alone : Bool) (boards : Boards) (seat need : ℕ) (history : List Operation) (left0 left1 held0 held1 : Option (List ℕ)) (pending rest : List ℕ)
    (e : HeadErr) (end : Ended)
    → prepended pending left0 ≡ prepended rest left1 → IsRefused rest left1 e → IsFirstRefusal rest e
    → SendsLast (last_of e) held0 held1 end
    → Ends alone boards boards seat need history history record { left_before = left0; left_after = left1; held_before = held0; held_after = held1 } pending end
ends_refused alone boards seat need history left0 left1 held0 held1 pending rest e end same is first sends =
    record {
      last = last_of e;
      rest = rest;
      sent = sends.sent;
      reads = same;
      writes = sends.writes;
      stands = stands alone boards seat need history rest left1 e is first;
      ends = sends.ends;
      moves = behind-refused boards e;
      read_some = other (last_of e) (last_is_other e);
    }

-- what was read behind a head
pub read_behind : (left0 left1 left2 : Option (List ℕ)) (pending front mid more : List ℕ)
    → prepended pending left0 ≡ prepended (front ++ mid) left1 → prepended mid left1 ≡ prepended more left2
    → prepended pending left0 ≡ prepended (front ++ more) left2
read_behind left0 left1 left2 pending front mid more first second =
    first ∙ sym (prepended_twice front mid left1) ∙ ap (λ (o : Option (List ℕ)). prepended front o) second ∙ prepended_twice front more left2

-- an accepted head within the limits
pub record IsAccepted (sent : RequestHead) (head : Head) : Type 0 where
  pub is_head : IsRequestHead sent
  pub short : length (print_request sent) ≤ longest_head
  pub few : length sent.fields ≤ most_lines
  pub accepted : judged (request_of sent) ≡ Ok head

body_cut : (sent : RequestHead) (head : Head) (body : List ℕ) → IsAccepted sent head → length body < head.length
    → IsBodyCut (print_request sent ++ body)
body_cut sent head body is lacking = record {
  sent = sent;
  head = head;
  body = body;
  is_head = is.is_head;
  short = is.short;
  few = is.few;
  accepted = is.accepted;
  spelled = refl;
  lacking = lacking;
}

-- the input ended inside a body
pub ends_cut : (alone : Bool) (boards : Boards) (seat need : ℕ) (history : List Operation) (left0 left1 left2 held : Option (List ℕ)) (pending mid body : List ℕ)
    (sent : RequestHead) (head : Head) → IsAccepted sent head
    → prepended pending left0 ≡ prepended (print_request sent ++ mid) left1 → prepended mid left1 ≡ prepended body left2
    → length body < head.length → HasEnded left2
    → Ends alone boards boards seat need history history record { left_before = left0; left_after = left2; held_before = held; held_after = held } pending ended.CutShort
unfolding is_no_buffers
ends_cut alone boards seat need history left0 left1 left2 held pending mid body sent head is first second lacking end =
    record {
      last = cut;
      rest = print_request sent ++ body;
      sent = [];
      reads = read_behind left0 left1 left2 pending (print_request sent) mid body first second;
      writes = sym (appended_nothing held);
      stands = (inr (body_cut sent head body is lacking, end), refl);
      ends = (refl, refl);
      moves = refl;
      read_some = other cut refl;
    }

-- a read failed inside a body
pub ends_faulted : (alone : Bool) (boards : Boards) (seat need : ℕ) (history : List Operation) (left0 left1 left2 held : Option (List ℕ)) (pending mid body : List ℕ)
    (sent : RequestHead) (head : Head) → IsAccepted sent head
    → prepended pending left0 ≡ prepended (print_request sent ++ mid) left1 → prepended mid left1 ≡ prepended body left2
    → length body < head.length
    → Ends alone boards boards seat need history history record { left_before = left0; left_after = left2; held_before = held; held_after = held } pending ended.ReadFault
unfolding is_no_buffers
ends_faulted alone boards seat need history left0 left1 left2 held pending mid body sent head is first second lacking =
    record {
      last = faulted;
      rest = print_request sent ++ body;
      sent = [];
      reads = read_behind left0 left1 left2 pending (print_request sent) mid body first second;
      writes = sym (appended_nothing held);
      stands = (inr (body_cut sent head body is lacking), refl);
      ends = (refl, refl);
      moves = refl;
      read_some = other faulted refl;
    }

-- no memory was found for a body
pub ends_starved : (alone : Bool) (boards : Boards) (seat need : ℕ) (history : List Operation) (left0 left1 left2 held0 held1 : Option (List ℕ)) (pending mid more : List ℕ)
    (sent : RequestHead) (head : Head) (end : Ended) → IsAccepted sent head
    → prepended pending left0 ≡ prepended (print_request sent ++ mid) left1 → prepended mid left1 ≡ prepended more left2
    → 0 < head.length → SendsLast (no_room head) held0 held1 end
    → Ends alone boards boards seat need history history record { left_before = left0; left_after = left2; held_before = held0; held_after = held1 } pending end
unfolding is_no_buffers
ends_starved alone boards seat need history left0 left1 left2 held0 held1 pending mid more sent head end is first second some sends =
    record {
      last = no_room head;
      rest = print_request sent ++ more;
      sent = sends.sent;
      reads = read_behind left0 left1 left2 pending (print_request sent) mid more first second;
      writes = sends.writes;
      stands = (
        record { sent = sent; more = more; is_head = is.is_head; short = is.short; few = is.few; accepted = is.accepted; spelled = refl; some = some },
        refl,
      );
      ends = sends.ends;
      moves = refl;
      read_some = other (no_room head) refl;
    }

-- an accepted request, as an exchange
abbrev exchange : (sent : RequestHead) (head : Head) (body : List ℕ) (seen later made : List Operation) (boards : Boards) (reply : Reply) → Exchange
exchange sent head body seen later made boards reply =
    record { sent = sent; head = head; body = body; seen = seen; later = later; made = made; boards = boards; reply = reply }

is_exchange : (alone : Bool) (boards boards_after : Boards) (seat need : ℕ) (before after : List Operation) (sent : RequestHead) (head : Head) (name body : List ℕ) (reply : Reply)
    → IsAccepted sent head → length body ≡ head.length → name ≡ name_of sent.target
    → (step : IsStep alone seat (needed need head) name body (asked_by head) before after reply)
    → Moves alone boards boards_after seat (asked_by head) before after reply → StaysOut alone after boards boards_after
    → IsExchange alone boards seat need before (exchange sent head body step.seen step.later step.made boards_after reply)
is_exchange alone boards boards_after seat need before after sent head name body reply is whole named step moved out =
    record {
      is_head = is.is_head;
      short = is.short;
      few = is.few;
      accepted = is.accepted;
      whole = whole;
      came = step.came;
      went = step.went;
      legal = subst (λ (w : List Operation). IsLegal is_frame w) step.follows step.legal;
      answered = subst (λ (w : List ℕ). IsAnswered seat w body (needed need head) (asked_by head) step.seen step.later step.made reply) named step.answered;
      moved = subst (λ (w : List Operation). Moves alone boards boards_after seat (asked_by head) before w reply) step.follows moved;
      out = subst (λ (w : List Operation). StaysOut alone w boards boards_after) step.follows out;
    }

-- a request was answered
pub serves_request : (alone : Bool) (boards boards_after : Boards) (seat need need_after : ℕ) (before after : List Operation)
    (left0 left1 left2 held0 held1 : Option (List ℕ)) (pending mid behind : List ℕ)
    (sent : RequestHead) (head : Head) (name body : List ℕ) (result : Option Ended)
    → IsAccepted sent head → length body ≡ head.length → name ≡ name_of sent.target
    → prepended pending left0 ≡ prepended (print_request sent ++ mid) left1 → prepended mid left1 ≡ prepended (body ++ behind) left2
    → Replies alone boards boards_after seat need need_after head name body before after held0 held1 result
    → Serves alone boards boards_after seat need need_after before after record { left_before = left0; left_after = left2; held_before = held0; held_after = held1 } pending behind result
serves_request alone boards boards_after seat need need_after before after left0 left1 left2 held0 held1 pending mid behind sent head name body result is whole named first second r =
    go result r.sends
  where
    is_x : IsExchange alone boards seat need before (exchange sent head body r.step.seen r.step.later r.step.made boards_after r.reply)
    is_x = is_exchange alone boards boards_after seat need before after sent head name body r.reply is whole named r.step r.moved r.out

    reads : prepended pending left0 ≡ prepended ((print_request sent ++ body) ++ behind) left2
    reads =
        read_behind left0 left1 left2 pending (print_request sent) mid (body ++ behind) first second
        ∙ ap (λ (w : List ℕ). prepended w left2) (sym (append_assoc (print_request sent) body behind))

    go : (o : Option Ended) → SendsReply head.close (reply_bytes head.method head.close r.reply) held0 held1 o
        → Serves alone boards boards_after seat need need_after before after record { left_before = left0; left_after = left2; held_before = held0; held_after = held1 } pending behind o
    go None sends =
        record {
          x = exchange sent head body r.step.seen r.step.later r.step.made boards_after r.reply;
          is = is_x;
          stays = sends.0;
          reads = reads;
          writes = sends.1;
          needs = r.needs;
          follows = r.step.follows;
          moves = refl;
        }
    go (Some ended.Asked) sends =
        record {
          last = request (exchange sent head body r.step.seen r.step.later r.step.made boards_after r.reply);
          rest = (print_request sent ++ body) ++ behind;
          sent = reply_bytes head.method head.close r.reply;
          reads = reads;
          writes = sends.1;
          stands = (is_x, (behind, refl), r.step.follows);
          ends = (exchange sent head body r.step.seen r.step.later r.step.made boards_after r.reply, refl, sends.0, refl);
          moves = refl;
          read_some = other (request (exchange sent head body r.step.seen r.step.later r.step.made boards_after r.reply)) (is_other _);
        }
    go (Some ended.WriteFault) (n, short, wrote) =
        record {
          last = request (exchange sent head body r.step.seen r.step.later r.step.made boards_after r.reply);
          rest = (print_request sent ++ body) ++ behind;
          sent = take n (reply_bytes head.method head.close r.reply);
          reads = reads;
          writes = wrote;
          stands = (is_x, (behind, refl), r.step.follows);
          ends = (n, short, refl);
          moves = refl;
          read_some = other (request (exchange sent head body r.step.seen r.step.later r.step.made boards_after r.reply)) (is_other _);
        }
    go (Some ended.Clean) sends = absurd sends
    go (Some (ended.Bad status)) sends = absurd sends
    go (Some ended.CutShort) sends = absurd sends
    go (Some ended.ReadFault) sends = absurd sends
    go (Some ended.Memory) sends = absurd sends
