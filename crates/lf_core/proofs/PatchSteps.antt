-- What a patch comes to behind the limits on commits and bytes.
use Rattle.std.proofs.Common.{◌≡◌, refl, sym, ◌∙◌, ap, subst, ℕ, suc, ◌+◌, ◌<◌, ◌≤◌, List, [], ◌∷◌, ◌++◌, length, nat_lt, not, Bool, true, false, cond, Some, Result, Ok, Err}
use Rattle.std.proofs.lemmas.Bool.{false≢true, not-false, not_from_true, lt-ltb, le-ltb, ltb-false, ltb-true}
use Rattle.lf_rdf.specs.declared.quad.Patch.{Patch}
use Rattle.lf_rdf.specs.declared.quad.Quad.{Quad}
use Rattle.def_datasets.specs.Dataset.{after}
use Rattle.def_histories.specs.declared.operation.Operation.{Operation}
use Rattle.def_histories.specs.declared.operation.Operation.TheVariants.{Commit}
use Rattle.def_histories.specs.History.{commits, text_bytes}
use Rattle.def_histories.specs.Legal.{IsLegal, most_commits, most_text_bytes, most_quads}
use Rattle.def_histories.proofs.LegalProofs.{allowed_is_legal}
use Rattle.lf_frames.specs.FrameTexts.{is_frame}
use Rattle.lf_desk.specs.declared.refusals.CommitErr.{CommitErr}
use Rattle.lf_desk.specs.declared.refusals.CommitErr.TheVariants as c
use Rattle.lf_desk.specs.CommitAnswer.{commit_answer, CommitFails, quads_before, quads_after}
use Rattle.lf_desk.proofs.Passing.{passed, past}
use Rattle.lf_desk.proofs.PatchAnswers.{accepted}
use Rattle.lf_versions.specs.declared.commit.Commit as versions
use Rattle.lf_versions.specs.declared.error.VersionErr.{VersionErr}
use Rattle.lf_versions.specs.declared.error.VersionErr.TheVariants as v
use Rattle.lf_versions.specs.Commits.{version_after}
use Rattle.lf_core.specs.Checks.{Failed, history_answer}
use Rattle.lf_core.specs.Entries.{commits_in}
use Rattle.lf_core.specs.Prepared.{FitsOn, Prepares, ReadiesCommit}
use Rattle.lf_core.proofs.Homecoming.{commits_count}
use Rattle.lf_core.proofs.Looking.{newest_is}
use Rattle.lf_core.proofs.Steps.{commits_in-append}

abbrev commit_of : ℕ → Patch → versions.Commit
commit_of seat patch = record { seat = seat; patch = patch }

-- what the limits on commits and bytes let through
record MayTry (history : List Operation) (patch : Patch) : Type 0 where
  pub counted : commits history < most_commits
  pub sized : text_bytes history + patch.bytes ≤ most_text_bytes

may_try : (history : List Operation) (patch : Patch) → history_answer history patch.bytes ≡ Ok tt → MayTry history patch
may_try history patch e =
    let one = past (not (nat_lt (commits history) most_commits)) _ tt _ e in
    let two = past (nat_lt most_text_bytes (text_bytes history + patch.bytes)) _ tt _ one.1 in
    record {
      counted = ltb-true (commits history) most_commits (not-false (nat_lt (commits history) most_commits) one.0);
      sized = ltb-false most_text_bytes (text_bytes history + patch.bytes) two.0;
    }

-- past the limits on commits and bytes
past_limits : (history : List Operation) (patch : Patch) → MayTry history patch
    → commit_answer history patch
    ≡ cond (nat_lt most_quads (quads_after history patch)) (Err (c.TooManyQuads (quads_before history) (quads_after history patch))) (Ok (suc (commits history)))
past_limits history patch may =
    passed (not (nat_lt (commits history) most_commits)) _ _
    (not_from_true (nat_lt (commits history) most_commits) (lt-ltb (commits history) most_commits may.counted))
    ∙ passed (nat_lt most_text_bytes (text_bytes history + patch.bytes)) _ _
    (le-ltb most_text_bytes (text_bytes history + patch.bytes) may.sized)

-- and the version after it, by the same test
past_commits : (history : List Operation) (cs : List versions.Commit) (commit : versions.Commit) → cs ≡ commits_in history → MayTry history commit.patch
    → version_after cs commit
    ≡ cond (nat_lt most_quads (quads_after history commit.patch)) (Err (v.TooManyQuads (quads_before history) (quads_after history commit.patch)))
    (Ok (cs ++ commit ∷ []))
past_commits history cs commit same may =
    passed (not (nat_lt (length cs) most_commits)) _ _
    (not_from_true (nat_lt (length cs) most_commits)
    (lt-ltb (length cs) most_commits (subst (λ (n : ℕ). n < most_commits) (sym (ap length same ∙ commits_count history)) may.counted)))
    ∙ ap (λ (quads : List Quad).
    cond (nat_lt most_quads (length (after quads commit.patch.lines)))
    (Err (v.TooManyQuads (length quads) (length (after quads commit.patch.lines)))) (Ok (cs ++ commit ∷ []))) (newest_is history cs same)

abbrev is_full : VersionErr → Bool
is_full (v.HistoryFull of have limit) = true
is_full (v.TooManyQuads have would) = false
is_full v.Memory = false

abbrev error_of : Result (List versions.Commit) VersionErr → VersionErr
error_of (Ok version) = v.Memory
error_of (Err error) = error

-- a refusal for too many quads

many_at : (history : List Operation) (patch : Patch) (made : List versions.Commit) (have would : ℕ) (b : Bool)
    → cond b (Err (v.TooManyQuads (quads_before history) (quads_after history patch))) (Ok made) ≡ Err (v.TooManyQuads have would)
    → cond b (Err (c.TooManyQuads (quads_before history) (quads_after history patch))) (Ok (suc (commits history))) ≡ Err (c.TooManyQuads have would)
many_at history patch made have would true e = cc
many_at history patch made have would false e = absurd cc

none_full : (made : List versions.Commit) (one two : ℕ) (error : VersionErr) (b : Bool) → is_full error ≡ true
    → cond b (Err (v.TooManyQuads one two)) (Ok made) ≡ Err error → ⊥
none_full made one two error true full e =
    false≢true (ap is_full (ap error_of e) ∙ full)
none_full made one two error false full e = absurd cc

pub fails_after : (history : List Operation) (cs : List versions.Commit) (seat : ℕ) (patch : Patch) (error : CommitErr) → cs ≡ commits_in history
    → history_answer history patch.bytes ≡ Ok tt → Failed error (version_after cs (record { seat = seat; patch = patch }))
    → CommitFails error (commit_answer history patch)
fails_after history cs seat patch c.Memory same ok failed = tt
fails_after history cs seat patch (c.HistoryFull of have limit) same ok failed =
    absurd
    (none_full (cs ++ commit_of seat patch ∷ []) (quads_before history) (quads_after history patch) (v.HistoryFull of have limit)
    (nat_lt most_quads (quads_after history patch)) refl
    (sym (past_commits history cs (commit_of seat patch) same (may_try history patch ok)) ∙ failed))
fails_after history cs seat patch (c.TooManyQuads have would) same ok failed =
    past_limits history patch (may_try history patch ok)
    ∙ many_at history patch (cs ++ commit_of seat patch ∷ []) have would (nat_lt most_quads (quads_after history patch))
    (sym (past_commits history cs (commit_of seat patch) same (may_try history patch ok)) ∙ failed)

-- a version

record IsMade (history : List Operation) (patch : Patch) (made reached : List versions.Commit) : Type 0 where
  pub answer : commit_answer history patch ≡ Ok (suc (commits history))
  pub version : reached ≡ made

made_at : (history : List Operation) (patch : Patch) (made version : List versions.Commit) (b : Bool)
    → commit_answer history patch ≡ cond b (Err (c.TooManyQuads (quads_before history) (quads_after history patch))) (Ok (suc (commits history)))
    → cond b (Err (v.TooManyQuads (quads_before history) (quads_after history patch))) (Ok made) ≡ Ok version → IsMade history patch made version
made_at history patch made version true answer e = absurd cc
made_at history patch made version false answer e = record { answer = answer; version = cc }

made_by : (history : List Operation) (cs : List versions.Commit) (seat : ℕ) (patch : Patch) (version : List versions.Commit) → cs ≡ commits_in history
    → history_answer history patch.bytes ≡ Ok tt → version_after cs (record { seat = seat; patch = patch }) ≡ Ok version
    → IsMade history patch (cs ++ record { seat = seat; patch = patch } ∷ []) version
made_by history cs seat patch version same ok e =
    made_at history patch (cs ++ commit_of seat patch ∷ []) version (nat_lt most_quads (quads_after history patch))
    (past_limits history patch (may_try history patch ok))
    (sym (past_commits history cs (commit_of seat patch) same (may_try history patch ok)) ∙ e)

pub readied : (history : List Operation) (cs : List versions.Commit) (seat : ℕ) (patch : Patch) (one two : versions.Commit) (version : List versions.Commit)
    → IsLegal is_frame history → cs ≡ commits_in history → history_answer history patch.bytes ≡ Ok tt
    → one ≡ record { seat = seat; patch = patch } → two ≡ record { seat = seat; patch = patch } → version_after cs two ≡ Ok version
    → ReadiesCommit history seat patch (Ok (record { operation = Commit one.seat one.patch; version = Some version }))
readied history cs seat patch one two version legal same ok is other e = (made.answer, (shown, fits))
  where
    made : IsMade history patch (cs ++ record { seat = seat; patch = patch } ∷ []) version
    made = made_by history cs seat patch version same ok (ap (version_after cs) (sym other) ∙ e)

    whole : version ≡ commits_in history ++ record { seat = seat; patch = patch } ∷ []
    whole = made.version ∙ ap (λ (w : List versions.Commit). w ++ record { seat = seat; patch = patch } ∷ []) same

    grown : IsLegal is_frame (history ++ Commit seat patch ∷ [])
    grown = allowed_is_legal is_frame history (Commit seat patch) legal (accepted history patch (suc (commits history)) made.answer)

    shown : ◌≡◌ {A = Prepares} (record { operation = Commit one.seat one.patch; version = Some version })
        (record { operation = Commit seat patch; version = Some (commits_in history ++ record { seat = seat; patch = patch } ∷ []) })
    shown = λ i. record { operation = Commit (is i).seat (is i).patch; version = Some (whole i) }

    fits : FitsOn history (record { operation = Commit one.seat one.patch; version = Some version })
    fits = record {
      legal = subst (λ (commit : versions.Commit). IsLegal is_frame (history ++ Commit commit.seat commit.patch ∷ [])) (sym is) grown;
      version =
          subst (λ (commit : versions.Commit). version ≡ commits_in (history ++ Commit commit.seat commit.patch ∷ [])) (sym is)
          (whole ∙ sym (commits_in-append history (Commit seat patch ∷ [])));
    }
