-- The counts of a shelf after each answer, and what the program's own answers stand for.
use Rattle.std.specs.Prelude.{ℕ, Option, Result, Ok, Err, if◌then◌else◌}
use Rattle.lf_io.specs.Faults.{risen}
use Rattle.lf_io.specs.Files.{Files, is_there}
use Rattle.lf_app.specs.declared.answer.Said.{Said}
use Rattle.lf_app.specs.declared.answer.Said.TheVariants as said
use Rattle.lf_app.specs.Answers.{Answer, usage, cannot_read, bad_line, bad_frame, over, accepted, document, no_memory}

-- what the program says stands for this answer
abbrev pub answer_said : Said → Answer
answer_said said.Usage = usage
answer_said (said.CannotRead file) = cannot_read file.now
answer_said (said.BadLine file line kind) = bad_line file.now line kind
answer_said (said.BadFrame file why) = bad_frame file.now why
answer_said (said.Over limit) = over limit
answer_said said.Accepted = accepted
answer_said (said.Document text) = document text
answer_said said.NoMemory = no_memory

-- the count of faults: only a file that can't be read raises it
abbrev pub faults_after : ℕ → Answer → ℕ
faults_after count (cannot_read file) = risen count
faults_after count _ = count

-- the count of failed takes of files that are there
abbrev pub refusals_after : Option Files → ℕ → Answer → ℕ
refusals_after files count (cannot_read file) = if is_there files file then risen count else count
refusals_after files count _ = count

-- both after a step that may answer
abbrev pub faults_by : {A : Type 0} → ℕ → Result A Said → ℕ
faults_by count (Ok value) = count
faults_by count (Err answered) = faults_after count (answer_said answered)

abbrev pub refusals_by : {A : Type 0} → Option Files → ℕ → Result A Said → ℕ
refusals_by files count (Ok value) = count
refusals_by files count (Err answered) = refusals_after files count (answer_said answered)
