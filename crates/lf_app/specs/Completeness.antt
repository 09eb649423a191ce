-- Which runs end well: files are framed, and whole streams are served.
use Rattle.std.specs.Prelude.{◌≡◌, ◌⊎◌, ◌<◌, ◌-◌, ◌^◌, List, [], ◌∷◌, ◌++◌, ℕ, true, Some, All}
use Rattle.lf_base.specs.Ascii as ch
use Rattle.lf_model.specs.declared.document.Doc.TheVariants as doc
use Rattle.def_histories.specs.declared.operation.Operation.{Operation}
use Rattle.def_histories.specs.Replay.{newest_dataset}
use Rattle.lf_io.specs.Bytes.{appended}
use Rattle.lf_io.specs.Files.{Files}
use Rattle.lf_frames.specs.FrameTexts.{document as framed}
use Rattle.lf_session.specs.Whole.{Message, IsWholeMessage, all_bytes}
use Rattle.lf_app.specs.Words.{frame, command_of}
use Rattle.lf_app.specs.Holding.{HoldsFrame, AreCommitted}
use Rattle.lf_app.specs.Runs.{Run}
use Rattle.lf_app.specs.Sessions.{is_session, IsRun}

-- The files hold an accepted frame and patches within the limits, whose document has bytes.
pub record AreFramed (files : Files) (words : List (List ℕ)) (text : List ℕ) : Type 0 where
  pub file : List ℕ
  pub data_files : List (List ℕ)
  pub frame_text : List ℕ
  pub history : List Operation
  pub named : command_of words ≡ Some (frame file data_files)
  pub holds : HoldsFrame (Some files) file frame_text
  pub committed : AreCommitted (Some files) data_files [] history
  pub document : framed frame_text (newest_dataset history) ≡ doc.Bytes text

-- the largest count of faults
abbrev pub most_faults : ℕ
most_faults = 2 ^ 64 - 1

-- a count that isn't at its end didn't rise
abbrev pub Stays : ℕ → ℕ → Type 0
Stays before after = (before < most_faults) × (after ≡ before)

-- the document was printed
abbrev pub PrintsDocument : Run → List ℕ → Type 0
PrintsDocument run text =
    (run.status ≡ 0) × (run.held_after ≡ appended run.held_before (text ++ ch.line_feed ∷ []))

-- Such files are framed, unless no memory was found, a write failed, or a file that is there can't
-- be read.
abbrev pub FilesAreFramed : Type 0
FilesAreFramed =
    (run : Run) (files : Files) (text : List ℕ) → IsRun run → run.files ≡ Some files →
    AreFramed files run.words text
    → Stays run.writes_before run.writes_after → Stays run.there_before run.there_after
    → PrintsDocument run text ⊎ (run.status ≡ 9)

-- A session over whole messages with accepted heads ends well, unless no memory was found or a read
-- or a write failed.
abbrev pub SessionsEndWell : Type 0
SessionsEndWell =
    (run : Run) (messages : List Message) → IsRun run → is_session (command_of run.words) ≡ true →
    All IsWholeMessage messages
    → run.left_before ≡ Some (all_bytes messages)
    → Stays run.reads_before run.reads_after → Stays run.writes_before run.writes_after
    → (run.status ≡ 0) ⊎ (run.status ≡ 9)
