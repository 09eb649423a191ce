-- Runs of the program: what one was given, and what it left.
use Rattle.std.specs.Prelude.{◌≡◌, ◌⊎◌, List, ℕ, Option}
use Rattle.lf_io.specs.Bytes.{appended, AddsPart}
use Rattle.lf_io.specs.Faults.{risen}
use Rattle.lf_io.specs.Files.{Files}
use Rattle.lf_app.specs.Answers.{Answer, Comes}
use Rattle.lf_app.specs.Texts.{status_said, text_said}
use Rattle.lf_app.specs.Counting.{faults_after, refusals_after}

-- the exit status of a run whose output failed
abbrev pub output_failed : ℕ
output_failed = 4

-- The text of the answer was printed, and the status is that of the answer; or the output failed
-- after a part of the text.
abbrev pub IsPrinted : ℕ → Answer → Option (List ℕ) → Option (List ℕ) → ℕ → ℕ → Type 0
IsPrinted status answer held_before held_after faults_before faults_after =
    ((status ≡ status_said answer) × (held_after ≡ appended held_before (text_said answer))
    × (faults_after ≡ faults_before))
    ⊎ ((status ≡ output_failed) × AddsPart held_before held_after (text_said answer)
    × (faults_after ≡ risen faults_before))

-- What a run of these words over these files ended with, and what its objects told before and
-- after: what the input had left and the output held, and how often reads, writes, takes, and takes
-- of files that are there had failed.
pub record Run : Type 0 where
  pub words : List (List ℕ)
  pub files : Option Files
  pub status : ℕ
  pub left_before : Option (List ℕ)
  pub left_after : Option (List ℕ)
  pub held_before : Option (List ℕ)
  pub held_after : Option (List ℕ)
  pub reads_before : ℕ
  pub reads_after : ℕ
  pub writes_before : ℕ
  pub writes_after : ℕ
  pub takes_before : ℕ
  pub takes_after : ℕ
  pub there_before : ℕ
  pub there_after : ℕ

-- The run said this.
pub record Says (run : Run) (answer : Answer) : Type 0 where
  pub comes : Comes run.files run.words answer
  pub printed :
      IsPrinted run.status answer run.held_before run.held_after run.writes_before run.writes_after
  pub takes : run.takes_after ≡ faults_after run.takes_before answer
  pub there : run.there_after ≡ refusals_after run.files run.there_before answer
  pub reads : run.reads_after ≡ run.reads_before
