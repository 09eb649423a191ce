use Rattle.lf_context.specs.DraftView.{table_in}
use Rattle.lf_context.specs.Walks.{walk_at}
use Rattle.lf_context.proofs.Walks.{steps-resumed, steps-stopped}
use Rattle.lf_context.proofs.define.go_on.Goals as goal

pub returns-in-Ok : goal.returns-in-Ok
returns-in-Ok c = λ given.
    steps-resumed given c.in-Some.frame (table_in c.args.draft.now) c.args.marks.now.entries c.args.stack.now.items c.pop.new.self.items c.in-Ok.turn c.in_ok-take_up-in-Ok.field-0
    (walk_at (table_in c.take_up.new.draft) c.take_up.new.marks.entries c.take_up.new.stack.items) c.in-Some.ensures.items c.in-Ok.ensures.turn c.in-Ok.ensures.later c.in_ok-take_up-in-Ok.ensures

pub returns : goal.returns
returns c = λ given.
    steps-stopped given c.in-Some.frame (table_in c.args.draft.now) c.args.marks.now.entries c.args.stack.now.items c.pop.new.self.items c.in-Err.error
    (walk_at (table_in c.args.draft.now) c.args.marks.now.entries c.pop.new.self.items) c.in-Some.ensures.items c.in-Err.ensures.turn
