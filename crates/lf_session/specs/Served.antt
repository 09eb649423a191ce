-- A stream as it was served: what its source and its sink told, and the session that they tell of.
use Rattle.std.specs.Prelude.{◌≡◌, List, ◌++◌, ℕ, Bool, true, false, Option, Some, None}
use Rattle.lf_io.specs.Bytes.{prepended, appended, AddsPart}
use Rattle.lf_http.specs.declared.head.Head.{Head}
use Rattle.lf_http.specs.declared.head.HeadErr.{HeadErr}
use Rattle.lf_http.specs.declared.head.HeadErr.TheVariants as h
use Rattle.def_histories.specs.declared.operation.Operation.{Operation}
use Rattle.lf_session.specs.declared.ended.Ended.{Ended}
use Rattle.lf_session.specs.declared.ended.Ended.TheVariants as ended
use Rattle.lf_session.specs.Boards.{Boards, StaysOut}
use Rattle.lf_session.specs.Moving.{Moves, GrewBy}
use Rattle.lf_session.specs.Replies.{Reply, reply_bytes, refusal}
use Rattle.lf_session.specs.Requests.{asked_by}
use Rattle.lf_session.specs.Steps.{IsStep}
use Rattle.lf_session.specs.Exchanges.{Exchange, IsExchange, message_of, answer_of, history_of, need_of, needed, all_made, last_boards, turns_in, greatest_told}
use Rattle.lf_desk.specs.Seats.{own}
use Rattle.lf_session.specs.Headline.{answered}
use Rattle.lf_session.specs.Session.{Last, nothing, request, refused, cut, faulted, no_room, no_buffers, IsLast, EndsBy, IsSession, reads_failed, writes_failed}

-- The source had so much left before and after, the sink held so much before and after.
pub record Told : Type 0 where
  pub left_before : Option (List ℕ)
  pub left_after : Option (List ℕ)
  pub held_before : Option (List ℕ)
  pub held_after : Option (List ℕ)

-- these bytes were read
abbrev pub Reads : Told → List ℕ → Type 0
Reads told bytes = told.left_before ≡ prepended bytes told.left_after

-- these bytes were written
abbrev pub Writes : Told → List ℕ → Type 0
Writes told bytes = told.held_after ≡ appended told.held_before bytes

-- A whole stream was served, from a history to another. The seat's own operations are those before
-- and what its requests made with its number; a publication that they made has none. The texts that
-- it has taken grew by at most one for each turn that didn't answer that no frame waits, and by no
-- other request.
pub record IsServed (alone : Bool) (boards boards_after : Boards) (seat : ℕ)
    (before after : List Operation) (told : Told) (ended : Ended) : Type 0 where
  pub bytes : List ℕ
  pub written : List ℕ
  pub xs : List Exchange
  pub last : Last
  pub reads : Reads told bytes
  pub writes : Writes told written
  pub session : IsSession alone boards seat bytes told.left_after before after written ended xs last
  pub once : own seat after ≡ own seat before ++ own seat (all_made (answered xs last))
  pub moved : boards_after ≡ last_boards boards (answered xs last)
  pub took : GrewBy (turns_in (answered xs last)) boards.taken boards_after.taken

-- A request was answered, and the stream goes on. Bytes that were pending stood before those of the
-- source.
pub record GoesOn (alone : Bool) (boards boards_after : Boards) (seat need need_after : ℕ)
    (before after : List Operation) (told : Told) (pending pending_after : List ℕ) : Type 0 where
  pub x : Exchange
  pub is : IsExchange alone boards seat need before x
  pub stays : x.head.close ≡ false
  pub reads :
      prepended pending told.left_before ≡ prepended (message_of x ++ pending_after) told.left_after
  pub writes : Writes told (answer_of x)
  pub needs : need_after ≡ need_of need x
  pub follows : after ≡ history_of x
  pub moves : boards_after ≡ x.boards

-- the boards after what stands last
abbrev pub boards_behind : Boards → Last → Boards
boards_behind boards (request x) = x.boards
boards_behind boards nothing = boards
boards_behind boards (refused e reply) = boards
boards_behind boards cut = boards
boards_behind boards faulted = boards
boards_behind boards (no_room head) = boards
boards_behind boards no_buffers = boards

-- The stream ended.
pub record Ends (alone : Bool) (boards boards_after : Boards) (seat need : ℕ)
    (before after : List Operation) (told : Told) (pending : List ℕ) (ended : Ended) : Type 0 where
  pub last : Last
  pub rest : List ℕ
  pub sent : List ℕ
  pub reads : prepended pending told.left_before ≡ prepended rest told.left_after
  pub writes : Writes told sent
  pub stands : IsLast alone boards seat need before rest told.left_after last after
  pub ends : EndsBy last sent ended
  pub moves : boards_after ≡ boards_behind boards last
  pub read_some : last ≡ no_buffers → ⊥

-- the one or the other
abbrev pub Serves :
    Bool → Boards → Boards → ℕ → ℕ → ℕ → List Operation → List Operation → Told → List ℕ → List ℕ →
    Option Ended → Type 0
Serves alone boards boards_after seat need need_after before after told pending pending_after None =
    GoesOn alone boards boards_after seat need need_after before after told pending pending_after
Serves alone boards boards_after seat need need_after before after told pending pending_after
    (Some ended) =
    Ends alone boards boards_after seat need before after told pending ended

-- what stands last where a head was refused, and its reply, if there is one
abbrev pub unsent : HeadErr → Last
unsent h.CutShort = cut
unsent h.ReadFault = faulted
unsent h.TooLarge = faulted
unsent h.BadHead = faulted
unsent h.LengthNeeded = faulted
unsent h.BodyTooLong = faulted
unsent h.Expectation = faulted

abbrev pub last_for : HeadErr → Option Reply → Last
last_for e None = unsent e
last_for e (Some reply) = refused e reply

abbrev pub last_of : HeadErr → Last
last_of e = last_for e (refusal e)

-- the sink took what was due for what stands last, or failed
pub record SendsLast (last : Last) (held_before held_after : Option (List ℕ)) (ended : Ended) :
    Type 0 where
  pub sent : List ℕ
  pub writes : held_after ≡ appended held_before sent
  pub ends : EndsBy last sent ended

-- the bytes of a reply were written and the stream goes on, or it ends because it was asked to
-- close or a write failed
abbrev pub SendsReply : Bool → List ℕ → Option (List ℕ) → Option (List ℕ) → Option Ended → Type 0
SendsReply close bytes held_before held_after None =
    (close ≡ false) × (held_after ≡ appended held_before bytes)
SendsReply close bytes held_before held_after (Some ended.Asked) =
    (close ≡ true) × (held_after ≡ appended held_before bytes)
SendsReply close bytes held_before held_after (Some ended.WriteFault) =
    AddsPart held_before held_after bytes
SendsReply close bytes held_before held_after (Some ended.Clean) = ⊥
SendsReply close bytes held_before held_after (Some (ended.Bad status)) = ⊥
SendsReply close bytes held_before held_after (Some ended.CutShort) = ⊥
SendsReply close bytes held_before held_after (Some ended.ReadFault) = ⊥
SendsReply close bytes held_before held_after (Some ended.Memory) = ⊥

-- An accepted request with its whole body was answered.
pub record Replies (alone : Bool) (boards boards_after : Boards) (seat need need_after : ℕ)
    (head : Head) (name body : List ℕ) (before after : List Operation)
    (held_before held_after : Option (List ℕ)) (result : Option Ended) : Type 0 where
  pub reply : Reply
  pub step : IsStep alone seat (needed need head) name body (asked_by head) before after reply
  pub moved : Moves alone boards boards_after seat (asked_by head) before after reply
  pub out : StaysOut alone after boards boards_after
  pub needs : need_after ≡ greatest_told (needed need head) reply.version
  pub sends :
      SendsReply head.close (reply_bytes head.method head.close reply) held_before held_after result

-- the counts of faults after a request was served or the stream ended
abbrev pub reads_after : ℕ → Option Ended → ℕ
reads_after count None = count
reads_after count (Some ended) = reads_failed count ended

abbrev pub writes_after : ℕ → Option Ended → ℕ
writes_after count None = count
writes_after count (Some ended) = writes_failed count ended
