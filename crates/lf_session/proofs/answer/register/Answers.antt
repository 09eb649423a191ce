use Rattle.std.proofs.Common.{Ok}
use Rattle.lf_session.specs.Shown.{shown}
use Rattle.lf_session.specs.declared.request.Asked.TheVariants as asks
use Rattle.lf_session.proofs.Registered.{registered-short}
use Rattle.lf_session.proofs.OneStep.{step-once}
use Rattle.lf_session.proofs.Answered.{put-told, put-refused}
use Rattle.lf_session.proofs.answer.register.Goals as goal

pub registered_reply-requires : goal.registered_reply-requires
registered_reply-requires g c =
    registered-short c.in-Ok.ensures.call.seen c.args.name.now c.args.text.now c.in-Ok.fresh c.in-Ok.ensures.call.says

pub returns-in-Ok-clause-step : goal.returns-in-Ok-clause-step
returns-in-Ok-clause-step g c = λ need.
    step-once _ _ need c.args.name.now c.args.text.now asks.Put _ _ _ (shown c.registered_reply.result) _ c.in-Ok.ensures.call
    (λ seen says. put-told _ need c.args.name.now c.args.text.now seen (Ok c.in-Ok.fresh) _ c.requires says c.registered_reply.ensures.shown)

pub returns-in-Err-clause-step : goal.returns-in-Err-clause-step
returns-in-Err-clause-step g c = λ need.
    step-once _ _ need c.args.name.now c.args.text.now asks.Put _ _ _ (shown c.register_failed.result) _ c.in-Err.ensures.call
    (λ seen says. put-refused _ need c.args.name.now c.args.text.now seen c.in-Err.error _ c.requires says
    (c.register_failed.ensures.shown c.args.name.now))
