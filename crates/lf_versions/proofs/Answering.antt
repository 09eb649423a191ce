-- What a commit answers, behind each of its tests.
use Rattle.std.proofs.Common.{◌≡◌, refl, sym, ◌∙◌, ap, subst, ℕ, ◌<◌, ◌≤◌, List, [], ◌∷◌, ◌++◌, length, nat_lt, not, Bool, true, false, cond, Result, Ok, Err}
use Rattle.std.proofs.lemmas.Bool.{lt-ltb, le-ltb}
use Rattle.lf_rdf.specs.declared.quad.Quad.{Quad}
use Rattle.lf_model.specs.declared.desk.Counted.TheVariants as counted
use Rattle.def_datasets.specs.Dataset.{after}
use Rattle.def_histories.specs.Legal.{most_commits, most_quads}
use Rattle.lf_index.specs.Applied.{IsApplied}
use Rattle.lf_versions.specs.declared.commit.Commit.{Commit}
use Rattle.lf_versions.specs.declared.error.VersionErr.{VersionErr}
use Rattle.lf_versions.specs.declared.error.VersionErr.TheVariants as e
use Rattle.lf_versions.specs.Commits.{dataset, version_after}

chosen : {A : Type 0} (b : Bool) (one two : A) → b ≡ true → cond b one two ≡ one
chosen b one two told = rw told refl

passed : {A : Type 0} (b : Bool) (one two : A) → b ≡ false → cond b one two ≡ two
passed b one two told = rw told refl

pub full : (commits : List Commit) (commit : Commit) (number : ℕ) → number ≡ length commits → 65536 ≤ number
    → version_after commits commit ≡ Err (e.HistoryFull counted.Commits number 65536)
unfolding most_commits
full commits commit number counts many =
    chosen (not (nat_lt (length commits) 65536)) _ _ (ap not (le-ltb (length commits) 65536 (subst (λ n. 65536 ≤ n) counts many)))
    ∙ ap (λ n. Err (e.HistoryFull counted.Commits n 65536)) (sym counts)

behind_full : (commits : List Commit) (commit : Commit) (number : ℕ) → number ≡ length commits → number < 65536
    → version_after commits commit
    ≡ cond (nat_lt most_quads (length (after (dataset commits) commit.patch.lines)))
    (Err (e.TooManyQuads (length (dataset commits)) (length (after (dataset commits) commit.patch.lines)))) (Ok (commits ++ commit ∷ []))
unfolding most_commits
behind_full commits commit number counts few =
    passed (not (nat_lt (length commits) 65536)) _ _ (ap not (lt-ltb (length commits) 65536 (subst (λ n. n < 65536) counts few)))

pub too_many : (commits : List Commit) (commit : Commit) (number have would : ℕ) (quads : List Quad) → number ≡ length commits → number < 65536
    → quads ≡ dataset commits
    → (most_quads < length (after quads commit.patch.lines)) × ((have ≡ length quads) × (would ≡ length (after quads commit.patch.lines)))
    → version_after commits commit ≡ Err (e.TooManyQuads have would)
too_many commits commit number have would quads counts few same refused =
    behind_full commits commit number counts few
    ∙ (chosen (nat_lt most_quads (length (after (dataset commits) commit.patch.lines))) _ _
    (lt-ltb most_quads (length (after (dataset commits) commit.patch.lines)) (subst (λ d. most_quads < length (after d commit.patch.lines)) same refused.0))
    ∙ (λ i. Err (e.TooManyQuads (told_have i) (told_would i))))
  where
    told_have : length (dataset commits) ≡ have
    told_have = sym (refused.1.0 ∙ ap length same)

    told_would : length (after (dataset commits) commit.patch.lines) ≡ would
    told_would = sym (refused.1.1 ∙ ap (λ d. length (after d commit.patch.lines)) same)

pub next : (commits made : List Commit) (commit : Commit) (number : ℕ) (quads applied : List Quad) → number ≡ length commits → number < 65536
    → quads ≡ dataset commits → IsApplied quads commit.patch.lines applied → made ≡ commits ++ commit ∷ []
    → version_after commits commit ≡ Ok made
next commits made commit number quads applied counts few same is grown =
    behind_full commits commit number counts few
    ∙ (passed (nat_lt most_quads (length (after (dataset commits) commit.patch.lines))) _ _
    (le-ltb most_quads (length (after (dataset commits) commit.patch.lines))
    (subst (λ d. length d ≤ most_quads) (is.is ∙ ap (λ d. after d commit.patch.lines) same) is.few))
    ∙ ap Ok (sym grown))
