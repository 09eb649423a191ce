use Rattle.std.proofs.Common.{◌≡◌, sym, ◌∙◌, ap, subst, List, ◌++◌, Option, Some, Ok}
use Rattle.def_histories.specs.declared.operation.Operation.{Operation}
use Rattle.def_histories.proofs.JobProofs.{fits_on}
use Rattle.lf_core.specs.Held.{Held, Seen}
use Rattle.lf_core.specs.Kept.{IsMeant}
use Rattle.lf_core.specs.Taken.{FitsHistory, IsTakenFrom, Taken, job_data}
use Rattle.lf_core.proofs.turn_tests.late_turn.Goals as goal

taken : (before : Seen) (boards : List Held) (found : Option Taken) (job : Taken) → found ≡ Some job → IsTakenFrom before boards (Ok found)
    → FitsHistory before.history job
taken before boards found job is told = (subst (λ (o : Option Taken). IsTakenFrom before boards (Ok o)) is told).fits

pub turn_and_give-requires-clause-fits : goal.turn_and_give-requires-clause-fits
turn_and_give-requires-clause-fits g c =
    subst (λ (history : List Operation). FitsHistory history c.in-Some.job)
    (sym
    (c.is_registered.ensures.history.1
    ∙ ap (λ (history : List Operation). history ++ c.is_registered.ensures.history.0) c.in_ok-job.ensures.history))
    (fits_on (λ text. IsMeant text c.in-Some.job.board.frame) c.args.state.now.history c.is_registered.ensures.history.0 (job_data c.in-Some.job)
    (taken c.args.state.now c.take_board.new.self.boards c.in_ok-job.field-0 c.in-Some.job c.in-Some.is c.in_ok-job.ensures.answer))
