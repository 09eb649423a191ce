use Rattle.lf_core.proofs.Prepare.{put_board}
use Rattle.lf_core.proofs.state.State.register.Goals as goal

pub returns-in-Ok-Some-clause-boards : goal.returns-in-Ok-Some-clause-boards
returns-in-Ok-Some-clause-boards c =
    put_board c.args.self.now c.ready_register.new.self c.put.new.self.boards c.args.seat c.args.name.now c.args.text.now c.in-Ok-Some.ready
    c.in-Ok-Some.field-0 c.in-Ok-Some.field-0-is c.in-Ok-Some.ensures.answer c.in-Ok-Some.ensures.history c.in-Ok-Some.ensures.boards c.put.ensures.boards
