use Rattle.std.proofs.Common.{sym}
use Rattle.lf_session.specs.Shown.{shown}
use Rattle.lf_session.proofs.OneStep.{step-alone}
use Rattle.lf_session.proofs.Answered.{refused-told}
use Rattle.lf_session.proofs.answer.answer.Goals as goal

pub returns-in-Refused-clause-step : goal.returns-in-Refused-clause-step
returns-in-Refused-clause-step g c =
    step-alone _ _ c.args.need c.args.name.now c.args.body.now c.args.asked _ (shown c.refused_reply.result)
    (g.met.D.Desk.legal c.args.desk.now)
    (refused-told _ c.args.need c.args.name.now c.args.body.now c.args.asked _ c.in-Refused.why _ c.in-Refused.is
    c.refused_reply.ensures.shown)

pub returns-in-Refused-clause-out : goal.returns-in-Refused-clause-out
returns-in-Refused-clause-out g c = λ lone. sym (g.met.D.Desk.away_are_live c.args.desk.now)
