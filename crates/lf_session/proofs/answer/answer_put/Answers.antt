use Rattle.lf_session.specs.Shown.{shown}
use Rattle.lf_session.specs.declared.request.Asked.TheVariants as asks
use Rattle.lf_session.proofs.OneStep.{step-alone}
use Rattle.lf_session.proofs.Answered.{put-bytes}
use Rattle.lf_session.proofs.BoardProofs.{kept-still}
use Rattle.lf_session.proofs.answer.answer_put.Goals as goal

pub returns-in-Err-clause-step : goal.returns-in-Err-clause-step
returns-in-Err-clause-step g c = λ need.
    step-alone _ _ need c.args.name.now c.args.body.now asks.Put _ (shown c.no_text_reply.result)
    (g.met.D.Desk.legal c.args.desk.now)
    (put-bytes _ need c.args.name.now c.args.body.now _ _ c.in-Err.ensures.cases.0 c.no_text_reply.ensures.shown)

pub returns-in-Err-clause-keeps : goal.returns-in-Err-clause-keeps
returns-in-Err-clause-keeps g c = kept-still _ _ _ (g.met.D.Desk.away_are_live c.args.desk.now)
