-- What stands at a name: nothing, a document that is new enough, or one that is still to come.
use Rattle.std.specs.Prelude.{◌≡◌, ◌≤◌, List, ℕ, nat_le, Bool, true, false, Option, Some, None, Result, Ok, Err}
use Rattle.std.specs.Arc.{arc_value}
use Rattle.lf_base.specs.declared.memory.Memory.{Memory}
use Rattle.lf_model.specs.declared.desk.Look.{Look}
use Rattle.lf_model.specs.declared.desk.Look.TheVariants.{Document, Pending, Unknown}
use Rattle.lf_model.specs.declared.desk.FramedNow.{FramedNow}
use Rattle.def_histories.specs.declared.live.Live.{Live}
use Rattle.def_histories.specs.declared.operation.Operation.{Operation}
use Rattle.def_histories.specs.History.{commits, live}
use Rattle.def_histories.specs.Replay.{dataset_at, newest_dataset}
use Rattle.lf_frames.specs.FrameTexts.{document}

-- a version is published that isn't below the needed one
abbrev pub is_new_enough : ℕ → Option ℕ → Bool
is_new_enough need None = false
is_new_enough need (Some version) = nat_le need version

-- A look is given.
abbrev pub Shows : List Operation → List ℕ → ℕ → Look → Type 0
Shows history name need Unknown = live history name ≡ None
Shows history name need (Pending have needed) =
    (frame : Live) × (live history name ≡ Some frame) × (have ≡ frame.published) × (needed ≡ need)
    × (is_new_enough need have ≡ false)
Shows history name need (Document doc version) =
    (frame : Live) × (live history name ≡ Some frame) × (frame.published ≡ Some version)
    × (need ≤ version)
    × (arc_value doc ≡ document frame.text (dataset_at history version))

-- A look answers so. Only in place of a document may no memory be found.
abbrev pub Looks : List Operation → List ℕ → ℕ → Result Look Memory → Type 0
Looks history name need (Ok look) = Shows history name need look
Looks history name need (Err refused) =
    (frame : Live) × (live history name ≡ Some frame) × (is_new_enough need frame.published ≡ true)

-- the document of the newest version, where the name is live
abbrev pub Frames : List Operation → List ℕ → Result (Option FramedNow) Memory → Type 0
Frames history name (Ok None) = live history name ≡ None
Frames history name (Ok (Some now)) =
    (frame : Live) × (live history name ≡ Some frame) × (now.version ≡ commits history)
    × (now.doc ≡ document frame.text (newest_dataset history))
Frames history name (Err refused) = Unit {0}
