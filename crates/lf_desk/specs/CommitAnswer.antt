-- What a commit answers, as a function of the history. Refusals stand in the order in which they
-- are tried.
use Rattle.std.specs.Prelude.{◌≡◌, List, [], ◌∷◌, ℕ, suc, ◌+◌, nat_lt, length, not, if◌then◌else◌, Result, Ok, Err}
use Rattle.lf_rdf.specs.declared.quad.Patch.{Patch}
use Rattle.lf_model.specs.declared.desk.Counted.TheVariants.{Commits, Bytes}
use Rattle.lf_desk.specs.declared.refusals.CommitErr.{CommitErr}
use Rattle.lf_desk.specs.declared.refusals.CommitErr.TheVariants as c
use Rattle.def_datasets.specs.Dataset.{after}
use Rattle.def_histories.specs.declared.operation.Operation.{Operation}
use Rattle.def_histories.specs.declared.operation.Operation.TheVariants.{Commit}
use Rattle.def_histories.specs.History.{commits, text_bytes}
use Rattle.def_histories.specs.Legal.{most_commits, most_quads, most_text_bytes}
use Rattle.def_histories.specs.Replay.{newest_dataset}

-- how many quads there are before a patch, and how many after it
abbrev pub quads_before : List Operation → ℕ
quads_before history = length (newest_dataset history)

abbrev pub quads_after : List Operation → Patch → ℕ
quads_after history patch = length (after (newest_dataset history) patch.lines)

-- a commit gives the number of its version, or it is refused
abbrev pub commit_answer : List Operation → Patch → Result ℕ CommitErr
commit_answer history patch =
    if not (nat_lt (commits history) most_commits)
    then Err (c.HistoryFull Commits (commits history) most_commits)
    else if nat_lt most_text_bytes (text_bytes history + patch.bytes)
    then Err (c.HistoryFull Bytes (text_bytes history) most_text_bytes)
    else if nat_lt most_quads (quads_after history patch)
    then Err (c.TooManyQuads (quads_before history) (quads_after history patch))
    else Ok (suc (commits history))

-- a call answered so, unless no memory was found
abbrev pub CommitFails : CommitErr → Result ℕ CommitErr → Type 0
CommitFails c.Memory answer = Unit {0}
CommitFails (c.HistoryFull of have limit) answer = answer ≡ Err (c.HistoryFull of have limit)
CommitFails (c.TooManyQuads have would) answer = answer ≡ Err (c.TooManyQuads have would)

abbrev pub CommitAnswers : Result ℕ CommitErr → Result ℕ CommitErr → Type 0
CommitAnswers (Ok version) answer = answer ≡ Ok version
CommitAnswers (Err error) answer = CommitFails error answer

-- the entry that a commit makes: one where it is accepted, also where its patch changes nothing
abbrev pub committed_by : ℕ → Patch → Result ℕ CommitErr → List Operation
committed_by seat patch (Ok version) = Commit seat patch ∷ []
committed_by seat patch (Err error) = []
