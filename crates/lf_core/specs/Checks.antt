-- What trying a registration and a commit comes to before the state changes.
use Rattle.std.specs.Prelude.{◌≡◌, List, ℕ, ◌+◌, nat_lt, Bool, true, false, not, if◌then◌else◌, Option, Some, None, Result, Ok, Err}
use Rattle.lf_model.specs.declared.desk.Counted.TheVariants.{Commits, Bytes}
use Rattle.lf_model.specs.declared.frame.Frame.{Frame}
use Rattle.def_contexts.specs.FrameValues.{frame_meaning}
use Rattle.lf_frames.specs.FrameTexts.{FrameText, accepted}
use Rattle.def_histories.specs.declared.operation.Operation.{Operation}
use Rattle.def_histories.specs.History.{commits, text_bytes}
use Rattle.def_histories.specs.Legal.{most_commits, most_text_bytes}
use Rattle.lf_versions.specs.declared.commit.Commit.{Commit}
use Rattle.lf_versions.specs.declared.error.VersionErr.{VersionErr}
use Rattle.lf_versions.specs.declared.error.VersionErr.TheVariants as v
use Rattle.lf_desk.specs.declared.refusals.CommitErr.{CommitErr}
use Rattle.lf_desk.specs.declared.refusals.CommitErr.TheVariants as c
use Rattle.lf_desk.specs.declared.refusals.RegisterErr.{RegisterErr}
use Rattle.lf_desk.specs.RegisterAnswer.{RegisterFails, text_answer}

-- the frame of a text, or why it is refused
abbrev pub Reads : FrameText → Result Frame RegisterErr → Type 0
Reads told (Ok frame) = told ≡ accepted (frame_meaning frame)
Reads told (Err error) =
    (limits : Result Bool RegisterErr) → RegisterFails error (text_answer told limits)

-- the frame of a text that is new under its name, none where it is live there already, or why it is
-- refused
abbrev pub Tries : FrameText → Result Bool RegisterErr → Result (Option Frame) RegisterErr → Type 0
Tries told answer (Ok (Some frame)) = (answer ≡ Ok true) × (told ≡ accepted (frame_meaning frame))
Tries told answer (Ok None) = answer ≡ Ok false
Tries told answer (Err error) = RegisterFails error answer

-- what the limits of the history say of a patch of so many bytes
abbrev pub history_answer : List Operation → ℕ → Result (Unit {0}) CommitErr
history_answer history bytes =
    if not (nat_lt (commits history) most_commits)
    then Err (c.HistoryFull Commits (commits history) most_commits)
    else if nat_lt most_text_bytes (text_bytes history + bytes)
    then Err (c.HistoryFull Bytes (text_bytes history) most_text_bytes)
    else Ok tt

-- the version after a commit, or why there is none
abbrev pub Failed : CommitErr → Result (List Commit) VersionErr → Type 0
Failed (c.HistoryFull of have limit) answer = answer ≡ Err (v.HistoryFull of have limit)
Failed (c.TooManyQuads have would) answer = answer ≡ Err (v.TooManyQuads have would)
Failed c.Memory answer = Unit {0}

abbrev pub AfterCommit : Result (List Commit) VersionErr → Result (List Commit) CommitErr → Type 0
AfterCommit answer (Ok version) = answer ≡ Ok version
AfterCommit answer (Err error) = Failed error answer
