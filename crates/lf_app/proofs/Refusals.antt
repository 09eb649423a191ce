-- Why files, texts and patches are refused.
use Rattle.std.proofs.Common.{◌≡◌, ℕ, ◌≤◌, ◌+◌, suc, Bool, true, false, List, Option, Result, Ok, Err, length, refl, ap, nat_lt, not, if◌then◌else◌}
use Rattle.lf_rdf.specs.declared.quad.Patch.{Patch}
use Rattle.lf_model.specs.declared.frame.Frame.{Frame}
use Rattle.lf_model.specs.declared.desk.Counted.TheVariants as counted
use Rattle.def_contexts.specs.FrameValues.{frame_meaning}
use Rattle.def_histories.specs.declared.operation.Operation.{Operation}
use Rattle.def_histories.specs.History.{commits, text_bytes}
use Rattle.def_histories.specs.Legal.{most_commits, most_frame_bytes, most_quads, most_text_bytes}
use Rattle.lf_io.specs.Files.{Files, MayHold}
use Rattle.lf_nquads.specs.Patches.{text_limit}
use Rattle.lf_frames.specs.FrameTexts.{accepted as accepted_frame, frame_text, is_accepted}
use Rattle.lf_desk.specs.declared.refusals.CommitErr.{CommitErr}
use Rattle.lf_desk.specs.declared.refusals.CommitErr.TheVariants as commit
use Rattle.lf_desk.specs.CommitAnswer.{commit_answer, quads_before, quads_after}
use Rattle.lf_app.specs.Holding.{HoldsPatch}
use Rattle.lf_app.specs.Answers.{Answer, usage, cannot_read, bad_line, bad_frame, over, accepted, document, no_memory, RefusesText, RefusesFrame, RefusesData}
use Rattle.lf_app.specs.DataFiles.{StatesPatch, RefusesLines}
use Rattle.lf_app.specs.FrameFiles.{ReadsFrame}

-- what a text is refused for, its file is refused for
pub text_refuses : (files : Option Files) (file text : List ℕ) (answer : Answer) → MayHold files file text → length text ≤ most_frame_bytes
    → RefusesText file text answer → RefusesFrame files file answer
text_refuses files file text (bad_frame name why) held within refused = (refused.0, (text, held, within, refused.1))
text_refuses files file text no_memory held within refused = refused
text_refuses files file text usage held within refused = absurd refused
text_refuses files file text (cannot_read name) held within refused = absurd refused
text_refuses files file text (bad_line name line kind) held within refused = absurd refused
text_refuses files file text (over limit) held within refused = absurd refused
text_refuses files file text accepted held within refused = absurd refused
text_refuses files file text (document printed) held within refused = absurd refused

pub text_reads : (files : Option Files) (file text : List ℕ) (frame : Frame) → MayHold files file text → length text ≤ most_frame_bytes
    → frame_text text ≡ accepted_frame (frame_meaning frame) → ReadsFrame files file frame
text_reads files file text frame held within means =
    record { text = text; holds = record { held = held; within = within; accepted = ap is_accepted means }; means = means }

pub lines_refuse : (files : Option Files) (file text : List ℕ) (answer : Answer) → MayHold files file text → length text ≤ text_limit
    → RefusesLines file text answer → RefusesData files file answer
lines_refuse files file text (bad_line name line kind) held within refused =
    (refused.0, record { bytes = text; held = held; within = within; bad = refused.1 })
lines_refuse files file text no_memory held within refused = refused
lines_refuse files file text usage held within refused = absurd refused
lines_refuse files file text (cannot_read name) held within refused = absurd refused
lines_refuse files file text (bad_frame name why) held within refused = absurd refused
lines_refuse files file text (over limit) held within refused = absurd refused
lines_refuse files file text accepted held within refused = absurd refused
lines_refuse files file text (document printed) held within refused = absurd refused

pub lines_hold : (files : Option Files) (file text : List ℕ) (patch : Patch) → MayHold files file text → length text ≤ text_limit
    → StatesPatch text patch → HoldsPatch files file patch
lines_hold files file text patch held within s =
    record { bytes = text; held = held; within = within; states = s.states; sized = s.sized }

-- ---- no commit is refused for registrations

abbrev IsOfRegistrations : Result ℕ CommitErr → Bool
IsOfRegistrations (Err (commit.HistoryFull counted.Registrations have limit)) = true
IsOfRegistrations (Err (commit.HistoryFull counted.Commits have limit)) = false
IsOfRegistrations (Err (commit.HistoryFull counted.Bytes have limit)) = false
IsOfRegistrations (Err (commit.TooManyQuads have would)) = false
IsOfRegistrations (Err commit.Memory) = false
IsOfRegistrations (Ok version) = false

by_cases : (full long many : Bool) (of_commits of_bytes of_quads done : Result ℕ CommitErr)
    → IsOfRegistrations of_commits ≡ false → IsOfRegistrations of_bytes ≡ false → IsOfRegistrations of_quads ≡ false
    → IsOfRegistrations done ≡ false
    → IsOfRegistrations (if full then of_commits else if long then of_bytes else if many then of_quads else done) ≡ false
by_cases true long many of_commits of_bytes of_quads done a b c d = a
by_cases false true many of_commits of_bytes of_quads done a b c d = b
by_cases false false true of_commits of_bytes of_quads done a b c d = c
by_cases false false false of_commits of_bytes of_quads done a b c d = d

pub never_of_registrations : (history : List Operation) (patch : Patch) (have limit : ℕ)
    → commit_answer history patch ≡ Err (commit.HistoryFull counted.Registrations have limit) → ⊥
never_of_registrations history patch have limit is =
    let refusal : IsOfRegistrations (commit_answer history patch) ≡ false =
    by_cases (not (nat_lt (commits history) most_commits)) (nat_lt most_text_bytes (text_bytes history + patch.bytes))
    (nat_lt most_quads (quads_after history patch)) (Err (commit.HistoryFull counted.Commits (commits history) most_commits))
    (Err (commit.HistoryFull counted.Bytes (text_bytes history) most_text_bytes))
    (Err (commit.TooManyQuads (quads_before history) (quads_after history patch))) (Ok (suc (commits history))) refl refl refl refl
    in cc (refusal, ap IsOfRegistrations is)
