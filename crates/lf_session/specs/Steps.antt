-- What the desk does for one request.
use Rattle.std.specs.Prelude.{◌≡◌, List, ◌++◌, ℕ, Bool, ◌≤◌, length, Result, Ok, Err}
use Rattle.lf_base.specs.declared.memory.Memory.{Memory}
use Rattle.def_histories.specs.declared.operation.Operation.{Operation}
use Rattle.def_histories.specs.Legal.{IsLegal}
use Rattle.def_turns.specs.declared.turned.Turned.{Turned}
use Rattle.def_turns.specs.declared.turned.Turned.TheVariants as t
use Rattle.lf_frames.specs.FrameTexts.{is_frame}
use Rattle.lf_desk.specs.Seats.{IsExtended}
use Rattle.lf_session.specs.declared.request.Asked.{Asked}
use Rattle.lf_session.specs.Bodies.{text_room}
use Rattle.lf_session.specs.Replies.{Reply}
use Rattle.lf_session.specs.Answers.{IsAnswered}

-- The desk's history went on from one to another, which is legal, and the request was answered by
-- what stood between.
pub record IsStep (alone : Bool) (seat need : ℕ) (name body : List ℕ) (asked : Asked)
    (before after : List Operation) (reply : Reply) : Type 0 where
  pub seen : List Operation
  pub later : List Operation
  pub made : List Operation
  pub came : IsExtended alone seat before seen
  pub went : IsExtended alone seat seen later
  pub follows : after ≡ later ++ made
  pub legal : IsLegal is_frame after
  pub answered : IsAnswered seat name body need asked seen later made reply

-- the name of a frame that is told has room in a body
abbrev pub HasShortName : Result Turned Memory → Type 0
HasShortName (Ok t.Idle) = Unit {0}
HasShortName (Ok (t.Published name version)) = length name ≤ text_room
HasShortName (Ok (t.Home name version)) = length name ≤ text_room
HasShortName (Ok (t.Superseded name was now)) = length name ≤ text_room
HasShortName (Err refused) = Unit {0}
