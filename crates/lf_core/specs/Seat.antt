-- What a desk of one state tells, and what the frame of a name means.
use Rattle.std.specs.Prelude.{◌≡◌, List, ℕ, Option, Some, None}
use Rattle.def_contexts.specs.Frames.{FrameMeaning}
use Rattle.def_histories.specs.declared.live.Live.{Live}
use Rattle.def_histories.specs.declared.operation.Operation.{Operation}
use Rattle.lf_frames.specs.FrameTexts.{accepted, frame_text}
use Rattle.lf_core.specs.declared.core_desk.CoreDesk.{CoreDesk}
use Rattle.lf_core.specs.Held.{Seen, away}

-- the frame that is live is that of its text, where one is live
abbrev pub MeansLive : Option Live → Option FrameMeaning → Type 0
MeansLive None None = Unit {0}
MeansLive (Some frame) (Some meaning) = frame_text frame.text ≡ accepted meaning
MeansLive None (Some meaning) = ⊥
MeansLive (Some frame) None = ⊥

-- the state of a desk
abbrev pub state_of : CoreDesk → Seen
state_of desk = desk.state

-- the history of its state
abbrev pub history_of : CoreDesk → List Operation
history_of desk = desk.state.history

-- the texts whose boards are away from it
abbrev pub away_of : CoreDesk → List ℕ
away_of desk = away desk.state

-- the number of its seat
abbrev pub seat_of : CoreDesk → ℕ
seat_of desk = desk.seat
