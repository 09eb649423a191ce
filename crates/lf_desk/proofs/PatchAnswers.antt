-- A patch is answered with a version exactly where it is allowed.
use Rattle.std.proofs.Common.{◌≡◌, ◌∙◌, ℕ, suc, ◌+◌, List, length, nat_lt, not, Ok}
use Rattle.std.proofs.lemmas.Bool.{not-false, not_from_true, ltb-false, ltb-true, lt-ltb, le-ltb}
use Rattle.lf_rdf.specs.declared.quad.Patch.{Patch}
use Rattle.def_datasets.specs.Dataset.{after}
use Rattle.def_histories.specs.declared.operation.Operation.{Operation}
use Rattle.def_histories.specs.History.{commits, text_bytes}
use Rattle.def_histories.specs.Legal.{IsCommit, most_commits, most_quads, most_text_bytes}
use Rattle.def_histories.specs.Replay.{newest_dataset}
use Rattle.lf_desk.specs.CommitAnswer.{commit_answer, quads_after}
use Rattle.lf_desk.specs.AnswerLaws.{AcceptsAllowedPatches}
use Rattle.lf_desk.proofs.Passing.{past, passed}

-- an answer with a version tells that the patch may be committed
pub accepted : (history : List Operation) (patch : Patch) (version : ℕ) → commit_answer history patch ≡ Ok version
    → IsCommit history patch.bytes (length (after (newest_dataset history) patch.lines))
accepted history patch version e =
    let one = past (not (nat_lt (commits history) most_commits)) _ version _ e in
    let two = past (nat_lt most_text_bytes (text_bytes history + patch.bytes)) _ version _ one.1 in
    let three = past (nat_lt most_quads (quads_after history patch)) _ version _ two.1 in
    record {
      counted = ltb-true (commits history) most_commits (not-false (nat_lt (commits history) most_commits) one.0);
      sized = ltb-false most_text_bytes (text_bytes history + patch.bytes) two.0;
      held = ltb-false most_quads (quads_after history patch) three.0;
    }

pub allowed : (history : List Operation) (patch : Patch)
    → IsCommit history patch.bytes (length (after (newest_dataset history) patch.lines))
    → commit_answer history patch ≡ Ok (suc (commits history))
allowed history patch may =
    passed (not (nat_lt (commits history) most_commits)) _ _
    (not_from_true (nat_lt (commits history) most_commits) (lt-ltb (commits history) most_commits may.counted))
    ∙ (passed (nat_lt most_text_bytes (text_bytes history + patch.bytes)) _ _
    (le-ltb most_text_bytes (text_bytes history + patch.bytes) may.sized)
    ∙ passed (nat_lt most_quads (quads_after history patch)) _ _ (le-ltb most_quads (quads_after history patch) may.held))

pub accepts_allowed_patches : AcceptsAllowedPatches
accepts_allowed_patches history seat patch = (accepted history patch (suc (commits history)), allowed history patch)
