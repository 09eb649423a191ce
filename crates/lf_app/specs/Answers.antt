-- What `frame`, `check` and refused words come to. The conditions are tried in this order: the
-- words, the frame file, the frame, the data files one after another, the document.
use Rattle.std.specs.Prelude.{◌≡◌, ◌⊎◌, ◌≤◌, List, [], ◌∷◌, ℕ, length, Option, Some, None, Result, Ok, Err}
use Rattle.lf_rdf.specs.declared.quad.Patch.{Patch}
use Rattle.lf_model.specs.declared.desk.Counted.TheVariants as counted
use Rattle.lf_model.specs.declared.document.Doc.{Doc}
use Rattle.lf_model.specs.declared.document.Doc.TheVariants as doc
use Rattle.def_patch_texts.specs.declared.kind.LineKind.{LineKind}
use Rattle.def_histories.specs.declared.operation.Operation.{Operation}
use Rattle.def_histories.specs.Legal.{most_frame_bytes}
use Rattle.def_histories.specs.Replay.{newest_dataset}
use Rattle.lf_nquads.specs.Patches.{text_limit}
use Rattle.lf_io.specs.Files.{Files, MayHold}
use Rattle.lf_frames.specs.FrameTexts.{FrameText, not_json, fractional, refused, accepted as accepted_frame, frame_text, document as framed}
use Rattle.lf_desk.specs.declared.refusals.CommitErr.{CommitErr}
use Rattle.lf_desk.specs.declared.refusals.CommitErr.TheVariants as commit
use Rattle.lf_desk.specs.CommitAnswer.{commit_answer}
use Rattle.lf_app.specs.declared.answer.Fault.{Fault}
use Rattle.lf_app.specs.declared.answer.Fault.TheVariants as fault
use Rattle.lf_app.specs.declared.answer.Passed.{Passed}
use Rattle.lf_app.specs.declared.answer.Passed.TheVariants as passed
use Rattle.lf_app.specs.Words.{Command, frame, check, session, command_of}
use Rattle.lf_app.specs.Holding.{HoldsFrame, HoldsMore, HoldsPatch, HoldsBadLine, IsCommitted, AreCommitted}

-- Files go by their words.
pub data Answer : Type 0 where
  usage : Answer
  cannot_read : List ℕ → Answer
  bad_line : List ℕ → ℕ → LineKind → Answer
  bad_frame : List ℕ → Fault → Answer
  over : Passed → Answer
  accepted : Answer
  document : List ℕ → Answer
  no_memory : Answer

-- why a text is no frame
abbrev pub fault_of : FrameText → Option Fault
fault_of not_json = Some fault.NotJson
fault_of (fractional path) = Some fault.Fractional
fault_of (refused error) = Some (fault.Ld error)
fault_of (accepted_frame meaning) = None

-- the limit that a commit passes
abbrev pub passed_by : Result ℕ CommitErr → Option Passed
passed_by (Ok version) = None
passed_by (Err (commit.HistoryFull counted.Commits have limit)) = Some passed.Commits
passed_by (Err (commit.HistoryFull counted.Bytes have limit)) = Some passed.HistoryBytes
passed_by (Err (commit.HistoryFull counted.Registrations have limit)) = None
passed_by (Err (commit.TooManyQuads have would)) = Some passed.Quads
passed_by (Err commit.Memory) = None

-- A text that is no frame is refused by what is wrong with it.
abbrev pub RefusesText : List ℕ → List ℕ → Answer → Type 0
RefusesText file text (bad_frame name why) = (name ≡ file) × (fault_of (frame_text text) ≡ Some why)
RefusesText file text no_memory = Unit {0}
RefusesText file text _ = ⊥

-- A frame file gives no frame: it can't be read, is too long, or its text is no frame.
abbrev pub RefusesFrame : Option Files → List ℕ → Answer → Type 0
RefusesFrame files file (cannot_read name) = name ≡ file
RefusesFrame files file (over passed.FrameText) = HoldsMore files file most_frame_bytes
RefusesFrame files file (bad_frame name why) =
    (name ≡ file) × ((text : List ℕ) × MayHold files file text × (length text ≤ most_frame_bytes)
    × (fault_of (frame_text text) ≡ Some why))
RefusesFrame files file no_memory = Unit {0}
RefusesFrame files file _ = ⊥

-- A data file gives no patch: it can't be read, is too long, or has a bad line.
abbrev pub RefusesData : Option Files → List ℕ → Answer → Type 0
RefusesData files file (cannot_read name) = name ≡ file
RefusesData files file (over passed.PatchText) = HoldsMore files file text_limit
RefusesData files file (bad_line name line kind) = (name ≡ file) × HoldsBadLine files file line kind
RefusesData files file no_memory = Unit {0}
RefusesData files file _ = ⊥

-- A patch isn't committed, since a limit of histories would be passed.
abbrev pub RefusesPatch : List Operation → Patch → Answer → Type 0
RefusesPatch history patch (over limit) = passed_by (commit_answer history patch) ≡ Some limit
RefusesPatch history patch no_memory = Unit {0}
RefusesPatch history patch _ = ⊥

-- A data file isn't committed.
abbrev pub RefusesFile : Option Files → List ℕ → List Operation → Answer → Type 0
RefusesFile files file history answer =
    RefusesData files file answer
    ⊎ ((patch : Patch) × HoldsPatch files file patch × RefusesPatch history patch answer)

-- One of the data files isn't committed, and those before it are.
abbrev pub RefusesOne : Option Files → List (List ℕ) → List Operation → Answer → Type 0
RefusesOne files [] history answer = ⊥
RefusesOne files (file ∷ rest) history answer =
    RefusesFile files file history answer
    ⊎ ((later : List Operation) × IsCommitted files file history later
    × RefusesOne files rest later answer)

-- the document, or the error or the limit that stands in its place
abbrev pub answer_by : List ℕ → Doc → Answer
answer_by file (doc.Bytes text) = document text
answer_by file (doc.Refused error) = bad_frame file (fault.Ld error)
answer_by file (doc.Over limit) = over (passed.Document limit)

-- The answer is this one, unless no memory was found.
abbrev pub IsOr : Answer → Answer → Type 0
IsOr wanted answer = (answer ≡ wanted) ⊎ (answer ≡ no_memory)

-- All files are committed, and the document is that of the frame's text over their dataset.
abbrev pub Frames : Option Files → List ℕ → List ℕ → List (List ℕ) → Answer → Type 0
Frames files file text data_files answer =
    (history : List Operation) × AreCommitted files data_files [] history
    × IsOr (answer_by file (framed text (newest_dataset history))) answer

-- The frame is accepted, and then the data files are committed one after another.
abbrev pub GoesOn : Option Files → List ℕ → List (List ℕ) → Answer → Type 0
GoesOn files file data_files answer =
    (text : List ℕ) × HoldsFrame files file text
    × (RefusesOne files data_files [] answer ⊎ Frames files file text data_files answer)

-- what a command comes to; `session` has no answer of its own
abbrev pub AnswersTo : Option Files → Option Command → Answer → Type 0
AnswersTo files None answer = answer ≡ usage
AnswersTo files (Some (frame file data_files)) answer =
    RefusesFrame files file answer ⊎ GoesOn files file data_files answer
AnswersTo files (Some (check file)) answer =
    RefusesFrame files file answer
    ⊎ ((answer ≡ accepted) × ((text : List ℕ) × HoldsFrame files file text))
AnswersTo files (Some session) answer = ⊥

-- what words come to
abbrev pub Comes : Option Files → List (List ℕ) → Answer → Type 0
Comes files words answer = AnswersTo files (command_of words) answer
