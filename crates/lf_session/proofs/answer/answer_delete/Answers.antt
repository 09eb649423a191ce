use Rattle.lf_session.specs.Shown.{shown}
use Rattle.lf_session.specs.declared.request.Asked.TheVariants as asks
use Rattle.lf_session.proofs.OneStep.{step-alone}
use Rattle.lf_session.proofs.Answered.{delete-lost}
use Rattle.lf_session.proofs.BoardProofs.{kept-still}
use Rattle.lf_session.proofs.answer.answer_delete.Goals as goal

pub returns-in-Err-clause-step : goal.returns-in-Err-clause-step
returns-in-Err-clause-step g c = λ need body.
    step-alone _ _ need c.args.name.now body asks.Delete _ (shown c.out_of_memory.result)
    (g.met.D.Desk.legal c.args.desk.now)
    (delete-lost _ need c.args.name.now body _ c.in-Err.field-0 _ c.out_of_memory.ensures.shown)

pub returns-in-Err-clause-keeps : goal.returns-in-Err-clause-keeps
returns-in-Err-clause-keeps g c = kept-still _ _ _ (g.met.D.Desk.away_are_live c.args.desk.now)
