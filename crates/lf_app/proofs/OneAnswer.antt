-- Where the files are told, words come to one answer, which is computed here.
use Rattle.std.proofs.Common.{◌≡◌, ℕ, nat_lt, Bool, true, false, List, [], ◌∷◌, ◌++◌, length, Option, Some, None, Result, Ok, Err, refl, sym, ap, subst, ◌∙◌, inl, inr}
use Rattle.std.specs.Prelude.{◌⊎◌}
use Rattle.std.proofs.lemmas.Bool.{false≢true, lt-ltb, le-ltb}
use Rattle.lf_rdf.specs.declared.quad.Signed.{Signed}
use Rattle.lf_rdf.specs.declared.quad.Patch.{Patch}
use Rattle.def_patch_texts.specs.declared.kind.LineKind.{LineKind}
use Rattle.def_patch_texts.specs.PatchText.{IsPatchText}
use Rattle.def_patch_texts.specs.BadLine.{IsBadLine}
use Rattle.def_patch_texts.proofs.BadLines.{one_bad_line, never_both}
use Rattle.def_patch_texts.proofs.Lines.{one_list}
use Rattle.def_histories.specs.declared.operation.Operation.{Operation}
use Rattle.def_histories.specs.declared.operation.Operation.TheVariants.{Commit}
use Rattle.def_histories.specs.Legal.{most_frame_bytes}
use Rattle.def_histories.specs.Replay.{newest_dataset}
use Rattle.lf_nquads.specs.Patches.{text_limit}
use Rattle.lf_nquads.proofs.Told.{each_text_is_told}
use Rattle.lf_io.specs.Files.{Files}
use Rattle.lf_frames.specs.FrameTexts.{FrameText, not_json, fractional, refused, accepted as accepted_frame, is_accepted, frame_text, document as framed}
use Rattle.lf_desk.specs.CommitAnswer.{commit_answer}
use Rattle.lf_app.specs.declared.answer.Fault.{Fault}
use Rattle.lf_app.specs.declared.answer.Passed.{Passed}
use Rattle.lf_app.specs.declared.answer.Passed.TheVariants as passed
use Rattle.lf_app.specs.Words.{Command, frame, check, session, command_of}
use Rattle.lf_app.specs.Holding.{session_seat, HoldsFrame, HoldsPatch, IsCommitted, AreCommitted}
use Rattle.lf_app.specs.Answers.{Answer, usage, cannot_read, bad_line, bad_frame, over, accepted, document, no_memory, fault_of, passed_by, RefusesFrame, RefusesData, RefusesPatch, RefusesFile, RefusesOne, answer_by, IsOr, Frames, AnswersTo}
use Rattle.lf_app.specs.Laws.{IsCaused, EachRunSaysOneThing}

-- a step that may answer, and what follows where it doesn't
abbrev go_on : {A B : Type 0} → Result A Answer → (A → Result B Answer) → Result B Answer
go_on (Ok value) next = next value
go_on (Err answer) next = Err answer

abbrev ends : {A : Type 0} → Result A Answer → (A → Answer) → Answer
ends (Ok value) last = last value
ends (Err answer) last = answer

-- ---- the frame file

abbrev frame_why : List ℕ → List ℕ → Option Fault → Result (List ℕ) Answer
frame_why file text None = Ok text
frame_why file text (Some why) = Err (bad_frame file why)

abbrev frame_length : Bool → Result (List ℕ) Answer → Result (List ℕ) Answer
frame_length true rest = Err (over passed.FrameText)
frame_length false rest = rest

abbrev frame_result : List ℕ → Option (List ℕ) → Result (List ℕ) Answer
frame_result file None = Err (cannot_read file)
frame_result file (Some text) =
    frame_length (nat_lt most_frame_bytes (length text)) (frame_why file text (fault_of (frame_text text)))

frame_refused : (files : Files) (file : List ℕ) (answer : Answer) → RefusesFrame (Some files) file answer → IsCaused files answer
    → frame_result file (files file) ≡ Err answer
frame_refused files file (cannot_read name) is gone =
    ap (frame_result file) (subst (λ (f : List ℕ). files f ≡ None) is gone) ∙ ap (λ (f : List ℕ). Err (cannot_read f)) (sym is)
frame_refused files file (over passed.FrameText) (bytes, held, long) cause =
    ap (frame_result file) held
    ∙ ap (λ b. frame_length b (frame_why file bytes (fault_of (frame_text bytes)))) (lt-ltb most_frame_bytes (length bytes) long)
frame_refused files file (bad_frame name why) (is, (text, held, within, fault)) cause =
    ap (frame_result file) held
    ∙ ap (λ b. frame_length b (frame_why file text (fault_of (frame_text text)))) (le-ltb most_frame_bytes (length text) within)
    ∙ ap (frame_why file text) fault
    ∙ ap (λ (f : List ℕ). Err (bad_frame f why)) (sym is)
frame_refused files file no_memory refusal cause = absurd cause
frame_refused files file usage refusal cause = absurd refusal
frame_refused files file (bad_line name line kind) refusal cause = absurd refusal
frame_refused files file (over passed.PatchText) refusal cause = absurd refusal
frame_refused files file (over passed.Commits) refusal cause = absurd refusal
frame_refused files file (over passed.HistoryBytes) refusal cause = absurd refusal
frame_refused files file (over passed.Quads) refusal cause = absurd refusal
frame_refused files file (over (passed.Document limit)) refusal cause = absurd refusal
frame_refused files file accepted refusal cause = absurd refusal
frame_refused files file (document text) refusal cause = absurd refusal

no_fault : (told : FrameText) → is_accepted told ≡ true → fault_of told ≡ None
no_fault (accepted_frame meaning) is = refl
no_fault not_json is = absurd (false≢true is)
no_fault (fractional path) is = absurd (false≢true is)
no_fault (refused error) is = absurd (false≢true is)

frame_held : (files : Files) (file text : List ℕ) → HoldsFrame (Some files) file text → frame_result file (files file) ≡ Ok text
frame_held files file text h =
    ap (frame_result file) h.held
    ∙ ap (λ b. frame_length b (frame_why file text (fault_of (frame_text text)))) (le-ltb most_frame_bytes (length text) h.within)
    ∙ ap (frame_why file text) (no_fault (frame_text text) h.accepted)

-- ---- a data file

abbrev Reads : List ℕ → Type 0
Reads text = ((signed : List Signed) × IsPatchText text signed) ⊎ ((n : ℕ) × (kind : LineKind) × IsBadLine text n kind)

abbrev text_result : (file text : List ℕ) → Reads text → Result Patch Answer
text_result file text (inl (signed, is)) = Ok (record { lines = signed; bytes = length text })
text_result file text (inr (n, kind, bad)) = Err (bad_line file n kind)

text_states : (file text : List ℕ) (reads : Reads text) (patch : Patch) → IsPatchText text patch.lines → patch.bytes ≡ length text
    → text_result file text reads ≡ Ok patch
text_states file text (inl (signed, is)) patch states sized =
    λ i. Ok (record { lines = one_list text signed patch.lines is states i; bytes = sym sized i })
text_states file text (inr (n, kind, bad)) patch states sized = absurd (never_both text patch.lines n kind states bad)

text_bad : (file text : List ℕ) (reads : Reads text) (n : ℕ) (kind : LineKind) → IsBadLine text n kind
    → text_result file text reads ≡ Err (bad_line file n kind)
text_bad file text (inl (signed, is)) n kind bad = absurd (never_both text signed n kind is bad)
text_bad file text (inr (m, other, worse)) n kind bad =
    let same = one_bad_line text m n other kind worse bad in λ i. Err (bad_line file (same.0 i) (same.1 i))

abbrev data_length : Bool → Result Patch Answer → Result Patch Answer
data_length true rest = Err (over passed.PatchText)
data_length false rest = rest

abbrev data_result : List ℕ → Option (List ℕ) → Result Patch Answer
data_result file None = Err (cannot_read file)
data_result file (Some text) =
    data_length (nat_lt text_limit (length text)) (text_result file text (each_text_is_told text))

data_refused : (files : Files) (file : List ℕ) (answer : Answer) → RefusesData (Some files) file answer → IsCaused files answer
    → data_result file (files file) ≡ Err answer
data_refused files file (cannot_read name) is gone =
    ap (data_result file) (subst (λ (f : List ℕ). files f ≡ None) is gone) ∙ ap (λ (f : List ℕ). Err (cannot_read f)) (sym is)
data_refused files file (over passed.PatchText) (bytes, held, long) cause =
    ap (data_result file) held
    ∙ ap (λ b. data_length b (text_result file bytes (each_text_is_told bytes))) (lt-ltb text_limit (length bytes) long)
data_refused files file (bad_line name line kind) (is, h) cause =
    ap (data_result file) h.held
    ∙ ap (λ b. data_length b (text_result file h.bytes (each_text_is_told h.bytes))) (le-ltb text_limit (length h.bytes) h.within)
    ∙ text_bad file h.bytes (each_text_is_told h.bytes) line kind h.bad
    ∙ ap (λ (f : List ℕ). Err (bad_line f line kind)) (sym is)
data_refused files file no_memory refusal cause = absurd cause
data_refused files file usage refusal cause = absurd refusal
data_refused files file (bad_frame name why) refusal cause = absurd refusal
data_refused files file (over passed.FrameText) refusal cause = absurd refusal
data_refused files file (over passed.Commits) refusal cause = absurd refusal
data_refused files file (over passed.HistoryBytes) refusal cause = absurd refusal
data_refused files file (over passed.Quads) refusal cause = absurd refusal
data_refused files file (over (passed.Document limit)) refusal cause = absurd refusal
data_refused files file accepted refusal cause = absurd refusal
data_refused files file (document text) refusal cause = absurd refusal

data_held : (files : Files) (file : List ℕ) (patch : Patch) → HoldsPatch (Some files) file patch
    → data_result file (files file) ≡ Ok patch
data_held files file patch h =
    ap (data_result file) h.held
    ∙ ap (λ b. data_length b (text_result file h.bytes (each_text_is_told h.bytes))) (le-ltb text_limit (length h.bytes) h.within)
    ∙ text_states file h.bytes (each_text_is_told h.bytes) patch h.states h.sized

-- ---- a commit

abbrev after_commit : List Operation → Patch → Option Passed → Result (List Operation) Answer
after_commit history patch None = Ok (history ++ Commit session_seat patch ∷ [])
after_commit history patch (Some limit) = Err (over limit)

abbrev patch_result : List Operation → Patch → Result (List Operation) Answer
patch_result history patch = after_commit history patch (passed_by (commit_answer history patch))

abbrev file_result : Files → List ℕ → List Operation → Result (List Operation) Answer
file_result files file history = go_on (data_result file (files file)) (patch_result history)

patch_refused : (files : Files) (history : List Operation) (patch : Patch) (answer : Answer) → RefusesPatch history patch answer
    → IsCaused files answer → patch_result history patch ≡ Err answer
patch_refused files history patch (over limit) is cause = ap (after_commit history patch) is
patch_refused files history patch no_memory refusal cause = absurd cause
patch_refused files history patch usage refusal cause = absurd refusal
patch_refused files history patch (cannot_read name) refusal cause = absurd refusal
patch_refused files history patch (bad_line name line kind) refusal cause = absurd refusal
patch_refused files history patch (bad_frame name why) refusal cause = absurd refusal
patch_refused files history patch accepted refusal cause = absurd refusal
patch_refused files history patch (document text) refusal cause = absurd refusal

file_refused : (files : Files) (file : List ℕ) (history : List Operation) (answer : Answer)
    → RefusesFile (Some files) file history answer → IsCaused files answer → file_result files file history ≡ Err answer
file_refused files file history answer (inl refusal) cause =
    ap (λ r. go_on r (patch_result history)) (data_refused files file answer refusal cause)
file_refused files file history answer (inr (patch, holds, refusal)) cause =
    ap (λ r. go_on r (patch_result history)) (data_held files file patch holds) ∙ patch_refused files history patch answer refusal cause

file_committed : (files : Files) (file : List ℕ) (before after : List Operation) → IsCommitted (Some files) file before after
    → file_result files file before ≡ Ok after
file_committed files file before after c =
    ap (λ r. go_on r (patch_result before)) (data_held files file c.patch c.holds)
    ∙ ap (λ r. after_commit before c.patch (passed_by r)) c.accepted
    ∙ ap Ok (sym c.follows)

-- ---- all data files

abbrev files_result : Files → List (List ℕ) → List Operation → Result (List Operation) Answer
files_result files [] history = Ok history
files_result files (file ∷ rest) history = go_on (file_result files file history) (files_result files rest)

files_refused : (files : Files) (names : List (List ℕ)) (history : List Operation) (answer : Answer)
    → RefusesOne (Some files) names history answer → IsCaused files answer → files_result files names history ≡ Err answer
files_refused files [] history answer refusal cause = absurd refusal
files_refused files (file ∷ rest) history answer (inl refusal) cause =
    ap (λ r. go_on r (files_result files rest)) (file_refused files file history answer refusal cause)
files_refused files (file ∷ rest) history answer (inr (later, is, refusal)) cause =
    ap (λ r. go_on r (files_result files rest)) (file_committed files file history later is)
    ∙ files_refused files rest later answer refusal cause

files_committed : (files : Files) (names : List (List ℕ)) (before after : List Operation)
    → AreCommitted (Some files) names before after → files_result files names before ≡ Ok after
files_committed files [] before after is = ap Ok (sym is)
files_committed files (file ∷ rest) before after (later, is, others) =
    ap (λ r. go_on r (files_result files rest)) (file_committed files file before later is)
    ∙ files_committed files rest later after others

-- ---- a command

abbrev framed_by : Files → List ℕ → List (List ℕ) → List ℕ → Answer
framed_by files file names text =
    ends (files_result files names []) (λ history. answer_by file (framed text (newest_dataset history)))

abbrev answer_to : Files → Option Command → Answer
answer_to files None = usage
answer_to files (Some (frame file names)) = ends (frame_result file (files file)) (framed_by files file names)
answer_to files (Some (check file)) = ends (frame_result file (files file)) (λ text. accepted)
answer_to files (Some session) = usage

caused : (files : Files) (wanted answer : Answer) → IsOr wanted answer → IsCaused files answer → wanted ≡ answer
caused files wanted answer (inl is) cause = sym is
caused files wanted answer (inr refusal) cause = absurd (subst (IsCaused files) refusal cause)

goes_on : (files : Files) (file text : List ℕ) (names : List (List ℕ)) (answer : Answer)
    → RefusesOne (Some files) names [] answer ⊎ Frames (Some files) file text names answer → IsCaused files answer
    → framed_by files file names text ≡ answer
goes_on files file text names answer (inl refusal) cause =
    ap (λ r. ends r (λ history. answer_by file (framed text (newest_dataset history)))) (files_refused files names [] answer refusal cause)
goes_on files file text names answer (inr (history, committed, is)) cause =
    ap (λ r. ends r (λ later. answer_by file (framed text (newest_dataset later)))) (files_committed files names [] history committed)
    ∙ caused files (answer_by file (framed text (newest_dataset history))) answer is cause

answers : (files : Files) (command : Option Command) (answer : Answer) → AnswersTo (Some files) command answer → IsCaused files answer
    → answer_to files command ≡ answer
answers files None answer is cause = sym is
answers files (Some (frame file names)) answer (inl refusal) cause =
    ap (λ r. ends r (framed_by files file names)) (frame_refused files file answer refusal cause)
answers files (Some (frame file names)) answer (inr (text, holds, goes)) cause =
    ap (λ r. ends r (framed_by files file names)) (frame_held files file text holds)
    ∙ goes_on files file text names answer goes cause
answers files (Some (check file)) answer (inl refusal) cause =
    ap (λ r. ends r (λ text. accepted)) (frame_refused files file answer refusal cause)
answers files (Some (check file)) answer (inr (is, (text, holds))) cause =
    ap (λ r. ends r (λ read. accepted)) (frame_held files file text holds) ∙ sym is
answers files (Some session) answer refusal cause = absurd refusal

pub each_run_says_one_thing : EachRunSaysOneThing
each_run_says_one_thing files words one two first second cause other =
    sym (answers files (command_of words) one first cause) ∙ answers files (command_of words) two second other
