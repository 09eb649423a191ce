-- A stream of whole messages is answered to its end, or until it asks to close, where no read or
-- write fails and memory is found.
use Rattle.std.specs.Prelude.{◌≡◌, ◌≤◌, List, [], ◌∷◌, ◌++◌, ℕ, Bool, true, length, map, All, Option, Some, Ok}
use Rattle.httparse.specs.Grammar.{RequestHead, IsRequestHead, print_request}
use Rattle.lf_io.specs.Bytes.{prepended}
use Rattle.lf_http.specs.declared.head.Head.{Head}
use Rattle.lf_http.specs.Judge.{request_of, judged}
use Rattle.lf_http.specs.Reading.{longest_head, most_lines}
use Rattle.def_histories.specs.declared.operation.Operation.{Operation}
use Rattle.lf_session.specs.declared.ended.Ended.{Ended}
use Rattle.lf_session.specs.declared.ended.Ended.TheVariants as ended
use Rattle.lf_session.specs.Boards.{Boards}
use Rattle.lf_session.specs.Exchanges.{Exchange}
use Rattle.lf_session.specs.Session.{Last, IsSession}
use Rattle.lf_session.specs.Headline.{answered}

-- a message, and what its head says
pub record Message : Type 0 where
  pub sent : RequestHead
  pub head : Head
  pub body : List ℕ

abbrev pub message_bytes : Message → List ℕ
message_bytes m = print_request m.sent ++ m.body

abbrev pub all_bytes : List Message → List ℕ
all_bytes [] = []
all_bytes (m ∷ ms) = message_bytes m ++ all_bytes ms

-- the message that was answered
abbrev pub message_in : Exchange → Message
message_in x = record { sent = x.sent; head = x.head; body = x.body }

-- its head is within the limits and accepted, and its body has the length that the head tells
pub record IsWholeMessage (m : Message) : Type 0 where
  pub is_head : IsRequestHead m.sent
  pub short : length (print_request m.sent) ≤ longest_head
  pub few : length m.sent.fields ≤ most_lines
  pub accepted : judged (request_of m.sent) ≡ Ok m.head
  pub whole : length m.body ≡ m.head.length

-- How the stream may end. All messages were answered, or all up to one that asks to close.
-- Otherwise a read or a write failed, or no memory was found: no head is refused, and no message is
-- cut.
abbrev pub MayEnd : List Message → List Message → Ended → Type 0
MayEnd before behind ended.Clean = behind ≡ []
MayEnd before behind ended.Asked =
    (front : List Message) × (last : Message) × (before ≡ front ++ last ∷ [])
    × (last.head.close ≡ true)
MayEnd before behind (ended.Bad status) = ⊥
MayEnd before behind ended.CutShort = ⊥
MayEnd before behind ended.ReadFault = Unit {0}
MayEnd before behind ended.WriteFault = Unit {0}
MayEnd before behind ended.Memory = Unit {0}

-- the messages that were answered are the first ones, in order
pub record AreServed (ms : List Message) (xs : List Exchange) (end : Ended) : Type 0 where
  pub behind : List Message
  pub first : ms ≡ map message_in xs ++ behind
  pub ends : MayEnd (map message_in xs) behind end

abbrev pub WholeStreamsAreServed : Type 0
WholeStreamsAreServed =
    (alone : Bool) (boards : Boards) (seat : ℕ) (bytes written : List ℕ) (left : Option (List ℕ))
    (before after : List Operation) (end : Ended)
    (xs : List Exchange) (last : Last) (ms : List Message)
    → All IsWholeMessage ms → Some (all_bytes ms) ≡ prepended bytes left
    → IsSession alone boards seat bytes left before after written end xs last
    → AreServed ms (answered xs last) end
