-- A stream that is told ends as its bytes say, where no read or write fails and memory is found.
use Rattle.std.specs.Prelude.{◌≡◌, ◌≤◌, List, [], ◌∷◌, ◌++◌, ℕ, Bool, true, length, map, All, Option, Some, Err}
use Rattle.httparse.specs.Grammar.{RequestHead, IsRequestHead, ReadsRequest, print_request}
use Rattle.lf_io.specs.Bytes.{prepended}
use Rattle.lf_http.specs.declared.head.HeadErr.{HeadErr}
use Rattle.lf_http.specs.Judge.{request_of, judged}
use Rattle.lf_http.specs.Reading.{longest_head, most_lines}
use Rattle.def_histories.specs.declared.operation.Operation.{Operation}
use Rattle.lf_session.specs.declared.ended.Ended.{Ended}
use Rattle.lf_session.specs.declared.ended.Ended.TheVariants as ended
use Rattle.lf_session.specs.Boards.{Boards}
use Rattle.lf_session.specs.Replies.{Reply, refusal}
use Rattle.lf_session.specs.Exchanges.{Exchange}
use Rattle.lf_session.specs.Session.{Last, IsSession}
use Rattle.lf_session.specs.Headline.{answered}
use Rattle.lf_session.specs.Whole.{Message, message_bytes, all_bytes, message_in, IsWholeMessage}

-- What stands behind whole messages: nothing, a message that is cut and the bytes that it lacks, a
-- head that is cut, be it accepted or not, or a refused head.
pub data Tail : Type 0 where
  no_tail : Tail
  cut_message : Message → List ℕ → Tail
  cut_head : RequestHead → List ℕ → Tail
  refused_head : RequestHead → HeadErr → Tail

-- These heads are within the limits too.
abbrev pub IsTail : Tail → List ℕ → Type 0
IsTail no_tail part = part ≡ []
IsTail (cut_message m lacking) part =
    IsWholeMessage m × (part ≡ [] → ⊥) × (lacking ≡ [] → ⊥) × (part ++ lacking ≡ message_bytes m)
IsTail (cut_head h lacking) part =
    IsRequestHead h × (length (print_request h) ≤ longest_head) × (length h.fields ≤ most_lines)
    × (part ≡ [] → ⊥) × (lacking ≡ [] → ⊥) × (part ++ lacking ≡ print_request h)
IsTail (refused_head h e) part =
    (rest : List ℕ) × ReadsRequest part h rest × (length (print_request h) ≤ longest_head)
    × (length h.fields ≤ most_lines)
    × (judged (request_of h) ≡ Err e)

-- the end that each tail has
abbrev pub IsCleanTail : Tail → Type 0
IsCleanTail no_tail = Unit {0}
IsCleanTail (cut_message m lacking) = ⊥
IsCleanTail (cut_head h lacking) = ⊥
IsCleanTail (refused_head h e) = ⊥

abbrev pub IsCutTail : Tail → Type 0
IsCutTail no_tail = ⊥
IsCutTail (cut_message m lacking) = Unit {0}
IsCutTail (cut_head h lacking) = Unit {0}
IsCutTail (refused_head h e) = ⊥

abbrev pub IsBadTail : ℕ → Tail → Type 0
IsBadTail status no_tail = ⊥
IsBadTail status (cut_message m lacking) = ⊥
IsBadTail status (cut_head h lacking) = ⊥
IsBadTail status (refused_head h e) =
    (reply : Reply) × (refusal e ≡ Some reply) × (status ≡ reply.status)

-- How the stream may end: by its tail, where all messages were answered, or after a message that
-- asks to close. Otherwise a read or a write failed, or no memory was found.
abbrev pub MayEndBy : Tail → List Message → List Message → Ended → Type 0
MayEndBy tail before behind ended.Clean = (behind ≡ []) × IsCleanTail tail
MayEndBy tail before behind ended.Asked =
    (front : List Message) × (last : Message) × (before ≡ front ++ last ∷ [])
    × (last.head.close ≡ true)
MayEndBy tail before behind (ended.Bad status) = (behind ≡ []) × IsBadTail status tail
MayEndBy tail before behind ended.CutShort = (behind ≡ []) × IsCutTail tail
MayEndBy tail before behind ended.ReadFault = Unit {0}
MayEndBy tail before behind ended.WriteFault = Unit {0}
MayEndBy tail before behind ended.Memory = Unit {0}

-- the messages that were answered are the first ones, in order
pub record AreAnswered (tail : Tail) (ms : List Message) (xs : List Exchange) (end : Ended) :
    Type 0 where
  pub behind : List Message
  pub first : ms ≡ map message_in xs ++ behind
  pub ends : MayEndBy tail (map message_in xs) behind end

abbrev pub StreamsEndAsTold : Type 0
StreamsEndAsTold =
    (alone : Bool) (boards : Boards) (seat : ℕ) (bytes written : List ℕ) (left : Option (List ℕ))
    (before after : List Operation) (end : Ended)
    (xs : List Exchange) (last : Last) (ms : List Message) (tail : Tail) (part : List ℕ)
    → All IsWholeMessage ms → IsTail tail part → Some (all_bytes ms ++ part) ≡ prepended bytes left
    → IsSession alone boards seat bytes left before after written end xs last
    → AreAnswered tail ms (answered xs last) end
