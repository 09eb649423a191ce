-- What framing data files comes to, where the frame is read.
use Rattle.std.specs.Prelude.{◌≡◌, ◌⊎◌, List, ℕ, Option}
use Rattle.lf_model.specs.declared.frame.Frame.{Frame}
use Rattle.def_histories.specs.declared.operation.Operation.{Operation}
use Rattle.def_histories.specs.Replay.{newest_dataset}
use Rattle.def_scratch.specs.Scratch.{scratch_frame}
use Rattle.lf_io.specs.Files.{Files}
use Rattle.lf_app.specs.Holding.{AreCommitted}
use Rattle.lf_app.specs.Answers.{Answer, no_memory, RefusesOne, IsOr, answer_by}

-- the data files are committed behind a history, and the document is that of the frame over their
-- dataset
abbrev pub DocumentOver :
    Option Files → List ℕ → List (List ℕ) → Frame → List Operation → Answer → Type 0
DocumentOver files file data_files frame before answer =
    (history : List Operation) × AreCommitted files data_files before history
    × IsOr (answer_by file (scratch_frame frame (newest_dataset history))) answer

-- either this, or one of the data files isn't committed, or no memory was found
abbrev pub FramesOver :
    Option Files → List ℕ → List (List ℕ) → Frame → List Operation → Answer → Type 0
FramesOver files file data_files frame before answer =
    RefusesOne files data_files before answer
    ⊎ DocumentOver files file data_files frame before answer ⊎ (answer ≡ no_memory)
