-- Accepted files are framed, and whole streams are served to their end, where nothing fails.
use Rattle.std.proofs.Common.{◌≡◌, ℕ, Bool, true, false, List, [], Option, Some, None, refl, sym, ap, subst, ◌∙◌, inl, inr, arith}
use Rattle.std.specs.Prelude.{◌⊎◌, is_some, if◌then◌else◌}
use Rattle.lf_io.specs.Bytes.{appended}
use Rattle.lf_io.specs.Faults.{risen}
use Rattle.lf_io.specs.Files.{Files, is_there}
use Rattle.lf_session.specs.declared.ended.Ended.{Ended}
use Rattle.lf_session.specs.declared.ended.Ended.TheVariants as ended
use Rattle.lf_session.specs.Whole.{Message, MayEnd}
use Rattle.lf_session.specs.Boards.{no_boards}
use Rattle.lf_session.proofs.ToldProofs.{whole_streams_are_served}
use Rattle.lf_app.specs.Words.{Command, command_of}
use Rattle.lf_app.specs.Holding.{session_seat}
use Rattle.lf_app.specs.Answers.{Answer, usage, cannot_read, bad_line, bad_frame, over, accepted, document, no_memory, answer_by, AnswersTo, Comes}
use Rattle.lf_app.specs.Texts.{status_said, text_said}
use Rattle.lf_app.specs.Counting.{refusals_after}
use Rattle.lf_app.specs.Runs.{Run, IsPrinted, Says}
use Rattle.lf_app.specs.Sessions.{is_session, RunsAs, Serves}
use Rattle.lf_app.specs.Laws.{IsCaused}
use Rattle.lf_app.specs.Completeness.{AreFramed, Stays, PrintsDocument, FilesAreFramed, SessionsEndWell}
use Rattle.lf_app.proofs.OneAnswer.{each_run_says_one_thing}

-- a count that stays didn't rise
not_risen : (before after : ℕ) → Stays before after → after ≡ risen before → ⊥
unfolding risen
not_risen before after (small, stays) rises =
    let same : risen before ≡ before = sym rises ∙ stays in
    omega (arith, same, small)

-- ---- framing

-- no memory is found, or a file that is there can't be read
abbrev IsUncaused : Files → Answer → Type 0
IsUncaused files answer = (answer ≡ no_memory) ⊎ ((file : List ℕ) × (answer ≡ cannot_read file) × (is_there (Some files) file ≡ true))

by_file : (files : Files) (file : List ℕ) (held : Option (List ℕ)) → files file ≡ held
    → IsCaused files (cannot_read file) ⊎ IsUncaused files (cannot_read file)
by_file files file None is = inl is
by_file files file (Some bytes) is = inr (inr (file, refl, ap is_some is))

caused_or_not : (files : Files) (answer : Answer) → IsCaused files answer ⊎ IsUncaused files answer
caused_or_not files (cannot_read file) = by_file files file (files file) refl
caused_or_not files no_memory = inr (inl refl)
caused_or_not files usage = inl tt
caused_or_not files (bad_line file line kind) = inl tt
caused_or_not files (bad_frame file why) = inl tt
caused_or_not files (over limit) = inl tt
caused_or_not files accepted = inl tt
caused_or_not files (document text) = inl tt

comes_framed : (files : Files) (words : List (List ℕ)) (text : List ℕ) → AreFramed files words text → Comes (Some files) words (document text)
comes_framed files words text f =
    subst (λ (c : Option Command). AnswersTo (Some files) c (document text)) (sym f.named)
    (inr (f.frame_text, f.holds, inr (f.history, f.committed, inl (sym (ap (answer_by f.file) f.document)))))

-- what is printed of an answer where no write failed
printed : (run : Run) (answer : Answer) → Says run answer → Stays run.writes_before run.writes_after
    → (run.status ≡ status_said answer) × (run.held_after ≡ appended run.held_before (text_said answer))
printed run answer says stays = by_print says.printed
  where
    by_print : IsPrinted run.status answer run.held_before run.held_after run.writes_before run.writes_after
        → (run.status ≡ status_said answer) × (run.held_after ≡ appended run.held_before (text_said answer))
    by_print (inl (status, held, writes)) = (status, held)
    by_print (inr (status, part, writes)) = absurd (not_risen run.writes_before run.writes_after stays writes)

says_framed : (run : Run) (files : Files) (text : List ℕ) (answer : Answer) → Says run answer → run.files ≡ Some files
    → AreFramed files run.words text → Stays run.writes_before run.writes_after → Stays run.there_before run.there_after
    → IsCaused files answer ⊎ IsUncaused files answer → PrintsDocument run text ⊎ (run.status ≡ 9)
says_framed run files text answer says told are stays there (inl cause) =
    let comes : Comes (Some files) run.words answer = subst (λ (f : Option Files). Comes f run.words answer) told says.comes in
    let same : answer ≡ document text =
    each_run_says_one_thing files run.words answer (document text) comes (comes_framed files run.words text are) cause tt in
    let all = printed run answer says stays in
    inl (all.0 ∙ ap status_said same, all.1 ∙ ap (λ (a : Answer). appended run.held_before (text_said a)) same)
says_framed run files text answer says told are stays there (inr (inl none)) =
    inr ((printed run answer says stays).0 ∙ ap status_said none)
says_framed run files text answer says told are stays there (inr (inr (file, is, held))) =
    let rises : run.there_after ≡ risen run.there_before =
    says.there ∙ ap (λ (a : Answer). refusals_after run.files run.there_before a) is
    ∙ ap (λ (f : Option Files). refusals_after f run.there_before (cannot_read file)) told
    ∙ ap (λ (b : Bool). if b then risen run.there_before else run.there_before) held in
    absurd (not_risen run.there_before run.there_after there rises)

pub files_are_framed : FilesAreFramed
files_are_framed run files text is told are writes there =
    let plain : is_session (command_of run.words) ≡ false = ap is_session are.named in
    let says = subst (λ (b : Bool). RunsAs b run) plain is in
    says_framed run files text says.0 says.1 told are writes there (caused_or_not files says.0)

-- ---- sessions

ends_well : (run : Run) (before behind : List Message) (end : Ended) → Serves run end → MayEnd before behind end
    → Stays run.reads_before run.reads_after → Stays run.writes_before run.writes_after → (run.status ≡ 0) ⊎ (run.status ≡ 9)
ends_well run before behind ended.Clean s may reads writes = inl s.status
ends_well run before behind ended.Asked s may reads writes = inl s.status
ends_well run before behind (ended.Bad status) s may reads writes = absurd may
ends_well run before behind ended.CutShort s may reads writes = absurd may
ends_well run before behind ended.ReadFault s may reads writes = absurd (not_risen run.reads_before run.reads_after reads s.reads)
ends_well run before behind ended.WriteFault s may reads writes = absurd (not_risen run.writes_before run.writes_after writes s.writes)
ends_well run before behind ended.Memory s may reads writes = inr s.status

pub sessions_end_well : SessionsEndWell
sessions_end_well run messages is serves whole left reads writes =
    let run_of = subst (λ (b : Bool). RunsAs b run) serves is in
    let served = run_of.1.session.served in
    let all = whole_streams_are_served true no_boards session_seat served.bytes served.written run.left_after [] run_of.1.session.after run_of.0
    served.xs served.last messages whole (sym left ∙ served.reads) served.session in
    ends_well run _ all.behind run_of.0 run_of.1 all.ends reads writes
