-- What framing comes to, step by step.
use Rattle.std.proofs.Common.{◌≡◌, ℕ, List, [], Option, Some, refl, sym, ap, subst, inl, inr}
use Rattle.lf_model.specs.declared.document.Doc.{Doc}
use Rattle.lf_model.specs.declared.frame.Frame.{Frame}
use Rattle.def_histories.specs.declared.operation.Operation.{Operation}
use Rattle.def_histories.specs.Replay.{newest_dataset}
use Rattle.def_scratch.specs.Scratch.{scratch_frame}
use Rattle.lf_io.specs.Files.{Files}
use Rattle.lf_frames.proofs.Accepting.{read_frames_give_documents}
use Rattle.lf_app.specs.Words.{frame as frame_command, check}
use Rattle.lf_app.specs.Holding.{AreCommitted}
use Rattle.lf_app.specs.Answers.{Answer, accepted, no_memory, RefusesFrame, RefusesOne, answer_by, IsOr, AnswersTo}
use Rattle.lf_app.specs.FrameFiles.{ReadsFrame}
use Rattle.lf_app.specs.Framing.{FramesOver}

pub over_refused : (files : Option Files) (file : List ℕ) (data_files : List (List ℕ)) (frame : Frame) (before : List Operation) (answer : Answer)
    → RefusesOne files data_files before answer → FramesOver files file data_files frame before answer
over_refused files file data_files frame before answer refusal = inl refusal

pub over_framed : (files : Option Files) (file : List ℕ) (data_files : List (List ℕ)) (frame : Frame) (before history : List Operation) (answer : Answer)
    → AreCommitted files data_files before history → IsOr (answer_by file (scratch_frame frame (newest_dataset history))) answer
    → FramesOver files file data_files frame before answer
over_framed files file data_files frame before history answer committed is = inr (inl (history, committed, is))

pub over_nothing : (files : Option Files) (file : List ℕ) (data_files : List (List ℕ)) (frame : Frame) (before : List Operation)
    → FramesOver files file data_files frame before no_memory
over_nothing files file data_files frame before = inr (inr refl)

-- where the frame is read, framing answers the words
pub frames_answer : (files : Option Files) (file : List ℕ) (data_files : List (List ℕ)) (frame : Frame) (answer : Answer)
    → ReadsFrame files file frame → FramesOver files file data_files frame [] answer
    → AnswersTo files (Some (frame_command file data_files)) answer
frames_answer files file data_files frame answer reads (inl refusal) = inr (reads.text, reads.holds, inl refusal)
frames_answer files file data_files frame answer reads (inr (inl (history, committed, is))) =
    let same = read_frames_give_documents reads.text frame (newest_dataset history) reads.means in
    inr (reads.text, reads.holds, inr (history, committed, subst (λ (d : Doc). IsOr (answer_by file d) answer) same is))
frames_answer files file data_files frame answer reads (inr (inr none)) =
    inl (subst (λ (a : Answer). RefusesFrame files file a) (sym none) tt)

pub frame_answers : (files : Option Files) (file : List ℕ) (data_files : List (List ℕ)) (answer : Answer)
    → RefusesFrame files file answer → AnswersTo files (Some (frame_command file data_files)) answer
frame_answers files file data_files answer refusal = inl refusal

pub check_answers : (files : Option Files) (file : List ℕ) (answer : Answer) → RefusesFrame files file answer
    → AnswersTo files (Some (check file)) answer
check_answers files file answer refusal = inl refusal

pub check_accepts : (files : Option Files) (file : List ℕ) (frame : Frame) → ReadsFrame files file frame
    → AnswersTo files (Some (check file)) accepted
check_accepts files file frame reads = inr (refl, (reads.text, reads.holds))

pub is_document : (file : List ℕ) (doc wanted : Doc) → doc ≡ wanted → IsOr (answer_by file wanted) (answer_by file doc)
is_document file doc wanted same = inl (ap (answer_by file) same)

pub is_nothing : (file : List ℕ) (wanted : Doc) → IsOr (answer_by file wanted) no_memory
is_nothing file wanted = inr refl
