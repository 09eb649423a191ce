use Rattle.std.proofs.Common.{sym, ◌∙◌, ap, subst}
use Rattle.std.specs.Arc.{arc_value}
use Rattle.lf_versions.specs.declared.commit.Commit as versions
use Rattle.lf_versions.specs.Commits.{version_after}
use Rattle.lf_core.specs.Checks.{Failed}
use Rattle.lf_core.specs.Entries.{commits_in}
use Rattle.lf_core.proofs.PatchSteps.{fails_after, readied}
use Rattle.lf_core.proofs.state.State.ready_commit.Goals as goal

pub returns-in-Err-clause-answer : goal.returns-in-Err-clause-answer
returns-in-Err-clause-answer c =
    fails_after c.args.self.now.history c.newest.result.now c.args.seat c.args.patch c.in-Err.error
    (c.newest.ensures ∙ ap commits_in c.in_ok-more_places.ensures.history) (sym c.in_ok-check_commit.ensures)
    (subst (λ (commit : versions.Commit). Failed c.in-Err.error (version_after c.newest.result.now commit)) c.in_ok-commit.ensures.two c.in-Err.ensures)

pub returns-in-Ok-clause-answer : goal.returns-in-Ok-clause-answer
returns-in-Ok-clause-answer c =
    readied c.args.self.now.history c.newest.result.now c.args.seat c.args.patch (arc_value c.in_ok-commit.commit) (arc_value c.in_ok-commit.other)
    c.in-Ok.version c.history_is_legal.ensures (c.newest.ensures ∙ ap commits_in c.in_ok-more_places.ensures.history)
    (sym c.in_ok-check_commit.ensures) c.in_ok-commit.ensures.one c.in_ok-commit.ensures.two c.in-Ok.ensures
