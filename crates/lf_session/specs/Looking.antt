-- A `GET` of a frame is answered by what is published of it.
use Rattle.std.specs.Prelude.{◌≡◌, ◌⊎◌, List, ℕ, Bool, true, false, Option, Some, None}
use Rattle.def_histories.specs.declared.live.Live.{Live}
use Rattle.def_histories.specs.declared.operation.Operation.{Operation}
use Rattle.def_histories.specs.History.{live}
use Rattle.def_histories.specs.Replay.{dataset_at}
use Rattle.lf_http.specs.Reading.{name_of}
use Rattle.lf_frames.specs.FrameTexts.{document}
use Rattle.lf_desk.specs.Looks.{is_new_enough}
use Rattle.lf_session.specs.declared.request.Asked.TheVariants as asked
use Rattle.lf_session.specs.Boards.{Boards}
use Rattle.lf_session.specs.Bodies.{pending_body}
use Rattle.lf_session.specs.Replies.{Reply, plain, document_reply, unknown_frame, out_of_memory}
use Rattle.lf_session.specs.Requests.{asked_by}
use Rattle.lf_session.specs.Exchanges.{Exchange, IsExchange, needed}

-- the document that is published, with its version
pub record IsPublished (history : List Operation) (frame : Live) (reply : Reply) : Type 0 where
  pub version : ℕ
  pub published : frame.published ≡ Some version
  pub document : reply ≡ document_reply (document frame.text (dataset_at history version)) version

-- It is sent where it is new enough, unless no memory is found for a handle of it. Where it isn't,
-- or where none is published, it is told that it is still to come, and no memory is wanted.
abbrev pub IsShown : List Operation → ℕ → Reply → Option Live → Type 0
IsShown history need reply None = reply ≡ unknown_frame
IsShown history need reply (Some frame) =
    ((is_new_enough need frame.published ≡ true)
    × (IsPublished history frame reply ⊎ (reply ≡ out_of_memory)))
    ⊎ ((is_new_enough need frame.published ≡ false)
    × (reply ≡ plain 202 (pending_body frame.published need)))

abbrev pub GetsAreAnswered : Type 0
GetsAreAnswered =
    (alone : Bool) (boards : Boards) (seat need : ℕ) (before : List Operation) (x : Exchange)
    → IsExchange alone boards seat need before x → asked_by x.head ≡ asked.Get
    → IsShown x.seen (needed need x.head) x.reply (live x.seen (name_of x.sent.target))
