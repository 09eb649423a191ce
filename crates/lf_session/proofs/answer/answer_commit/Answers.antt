use Rattle.std.proofs.Common.{◌≡◌}
use Rattle.def_patch_texts.specs.BadLine.{IsBadLine}
use Rattle.lf_session.specs.Replies.{bad_line_reply}
use Rattle.lf_session.specs.Shown.{shown}
use Rattle.lf_session.specs.declared.request.Asked.TheVariants as asks
use Rattle.lf_session.proofs.OneStep.{step-alone}
use Rattle.lf_session.proofs.Answered.{commit-bad, commit-lost}
use Rattle.lf_session.proofs.BoardProofs.{kept-still}
use Rattle.lf_session.proofs.answer.answer_commit.Goals as goal

pub returns-in-Err-Bad-clause-step : goal.returns-in-Err-Bad-clause-step
returns-in-Err-Bad-clause-step g c = λ need name.
    let bad : IsBadLine c.args.body.now c.in-Err-Bad.line c.in-Err-Bad.kind = rw c.in-Err-Bad.field-0-is at c.in-Err-Bad.ensures.bad in
    let said : shown c.bad_line_reply.result ≡ bad_line_reply c.in-Err-Bad.kind c.in-Err-Bad.line = rw c.in-Err-Bad.field-0-is at c.bad_line_reply.ensures.shown in
    step-alone _ _ need name c.args.body.now asks.Commit _ (shown c.bad_line_reply.result)
    (g.met.D.Desk.legal c.args.desk.now)
    (commit-bad _ need name c.args.body.now _ c.in-Err-Bad.kind c.in-Err-Bad.line _ bad said)

pub returns-in-Err-Memory-clause-step : goal.returns-in-Err-Memory-clause-step
returns-in-Err-Memory-clause-step g c = λ need name.
    step-alone _ _ need name c.args.body.now asks.Commit _ (shown c.out_of_memory.result)
    (g.met.D.Desk.legal c.args.desk.now)
    (commit-lost _ need name c.args.body.now _ _ c.out_of_memory.ensures.shown)

pub returns-in-Err-Bad-clause-keeps : goal.returns-in-Err-Bad-clause-keeps
returns-in-Err-Bad-clause-keeps g c = kept-still _ _ _ (g.met.D.Desk.away_are_live c.args.desk.now)

pub returns-in-Err-Memory-clause-keeps : goal.returns-in-Err-Memory-clause-keeps
returns-in-Err-Memory-clause-keeps g c = kept-still _ _ _ (g.met.D.Desk.away_are_live c.args.desk.now)
