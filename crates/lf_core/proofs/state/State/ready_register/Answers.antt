use Rattle.lf_core.proofs.Prepare.{readied_frame}
use Rattle.lf_core.proofs.state.State.ready_register.Goals as goal

pub returns-in_ok-more_places-in-Ok-Some-clause-answer : goal.returns-in_ok-more_places-in-Ok-Some-clause-answer
returns-in_ok-more_places-in-Ok-Some-clause-answer c =
    readied_frame c.args.self.now.history c.args.seat c.args.name.now c.args.text.now c.in-Ok-Some.frame c.in-Ok-Some.field-0 c.in_ok-new-in-Ok-Some.new
    c.history_is_legal.ensures c.in-Ok-Some.field-0-is c.in-Ok-Some.ensures c.in_ok-new-in-Ok-Some.ensures.seat c.in_ok-new-in-Ok-Some.ensures.name
    c.in_ok-new-in-Ok-Some.ensures.text
