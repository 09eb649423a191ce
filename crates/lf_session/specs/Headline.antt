-- What a caller can trust of each reply.
use Rattle.std.specs.Prelude.{◌≡◌, ◌≤◌, List, [], ◌∷◌, ◌++◌, ℕ, Bool, true, false, is_some, Option, Some, IsTrue}
use Rattle.std.specs.List.{list_all}
use Rattle.def_histories.specs.declared.live.Live.{Live}
use Rattle.def_histories.specs.declared.operation.Operation.{Operation}
use Rattle.def_histories.specs.History.{commits, live}
use Rattle.def_histories.specs.Legal.{IsLegal}
use Rattle.def_histories.specs.Replay.{dataset_at}
use Rattle.lf_http.specs.Reading.{name_of}
use Rattle.lf_frames.specs.FrameTexts.{is_frame, document}
use Rattle.lf_desk.specs.Seats.{own, is_made_by}
use Rattle.lf_desk.specs.Looks.{is_new_enough}
use Rattle.lf_session.specs.declared.ended.Ended.{Ended}
use Rattle.lf_session.specs.declared.request.Asked.{Asked}
use Rattle.lf_session.specs.declared.request.Asked.TheVariants as asked
use Rattle.lf_session.specs.Bodies.{pending_body}
use Rattle.lf_session.specs.Boards.{Boards}
use Rattle.lf_session.specs.Replies.{Reply, plain, document_reply}
use Rattle.lf_session.specs.Requests.{asked_by}
use Rattle.lf_session.specs.Exchanges.{Exchange, need_of, needed, all_made}
use Rattle.lf_session.specs.Session.{Last, nothing, request, refused, cut, faulted, no_room, no_buffers, IsSession}

-- the reply is the document of the frame and of one committed version, no older than the one that
-- is needed
pub record IsOfOneVersion (history : List Operation) (name : List ℕ) (need : ℕ) (reply : Reply) :
    Type 0 where
  pub frame : Live
  pub version : ℕ
  pub is_live : live history name ≡ Some frame
  pub committed : version ≤ commits history
  pub new_enough : need ≤ version
  pub document : reply ≡ document_reply (document frame.text (dataset_at history version)) version

-- what is published is older than needed, or nothing is, and the reply shows both
pub record IsStillPending (history : List Operation) (name : List ℕ) (need : ℕ) (reply : Reply) :
    Type 0 where
  pub frame : Live
  pub is_live : live history name ≡ Some frame
  pub too_old : is_new_enough need frame.published ≡ false
  pub shows : reply ≡ plain 202 (pending_body frame.published need)

-- the request asks for a frame's document
abbrev pub asks_for_document : Asked → Bool
asks_for_document asked.Get = true
asks_for_document asked.GetNow = true
asks_for_document (asked.Refused why) = false
asks_for_document asked.Put = false
asks_for_document asked.Delete = false
asks_for_document asked.Commit = false
asks_for_document asked.Version = false
asks_for_document asked.Turn = false

-- A document, or the error or limit that stands in its place, is of one version: whatever is sent
-- as JSON-LD, each 200 for a frame's document, and each such reply that names a version. Pending
-- comes where none is new enough.
pub record IsTrusted (need : ℕ) (x : Exchange) : Type 0 where
  pub document :
      x.reply.ld_json ≡ true → IsOfOneVersion x.later (name_of x.sent.target) need x.reply
  pub framed : asks_for_document (asked_by x.head) ≡ true → x.reply.status ≡ 200
      → IsOfOneVersion x.later (name_of x.sent.target) need x.reply
  pub versioned : asks_for_document (asked_by x.head) ≡ true → is_some x.reply.version ≡ true
      → IsOfOneVersion x.later (name_of x.sent.target) need x.reply
  pub pending : x.reply.status ≡ 202 → IsStillPending x.seen (name_of x.sent.target) need x.reply

-- each reply, by the version that its caller had seen
abbrev pub AreTrusted : ℕ → List Exchange → Type 0
AreTrusted need [] = Unit {0}
AreTrusted need (x ∷ xs) = IsTrusted (needed need x.head) x × AreTrusted (need_of need x) xs

-- the requests of a stream that were answered, the last one with them
abbrev pub answered : List Exchange → Last → List Exchange
answered xs (request x) = xs ++ x ∷ []
answered xs nothing = xs
answered xs (refused e reply) = xs
answered xs cut = xs
answered xs faulted = xs
answered xs (no_room head) = xs
answered xs no_buffers = xs

-- The documents are of one version each. The seat's own operations are those of its number that its
-- requests made, in order, each once; all else that they made is publications.
pub record IsHeadline (seat : ℕ) (before after : List Operation) (xs : List Exchange) : Type 0 where
  pub trusted : AreTrusted 0 xs
  pub once : own seat after ≡ own seat before ++ own seat (all_made xs)
  pub made : IsTrue (list_all (is_made_by seat) (all_made xs))
  pub legal : IsLegal is_frame after

-- so it is of each stream that is served
abbrev pub SessionsHold : Type 0
SessionsHold =
    (alone : Bool) (boards : Boards) (seat : ℕ) (bytes written : List ℕ) (left : Option (List ℕ))
    (before after : List Operation) (end : Ended)
    (xs : List Exchange) (last : Last)
    → IsSession alone boards seat bytes left before after written end xs last →
    IsHeadline seat before after (answered xs last)
