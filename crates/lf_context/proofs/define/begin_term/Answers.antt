use Rattle.lf_model.specs.JsonBridge.{json_data}
use Rattle.lf_context.specs.DraftView.{table_in}
use Rattle.lf_context.specs.Walks.{walk_at}
use Rattle.lf_context.proofs.Walks.{steps-begun, steps-refused}
use Rattle.lf_context.proofs.define.begin_term.Goals as goal

pub returns-in_ok-take_up-in-Ok : goal.returns-in_ok-take_up-in-Ok
returns-in_ok-take_up-in-Ok c = λ given found none.
    steps-begun given c.args.name.now (json_data c.args.value.now) (table_in c.args.draft.now) (table_in c.start.new.draft) c.args.marks.now.entries c.mark.new.marks.entries c.args.stack.now.items c.in-Ok.turn c.in_ok-take_up-in-Ok.field-0
    (walk_at (table_in c.take_up.new.draft) c.take_up.new.marks.entries c.take_up.new.stack.items) found none c.in_ok-mark.ensures c.in-Ok.ensures.turn c.in-Ok.ensures.later c.in_ok-take_up-in-Ok.ensures

pub returns-in-Err : goal.returns-in-Err
returns-in-Err c = λ given found none.
    steps-refused given c.args.name.now (json_data c.args.value.now) (table_in c.args.draft.now) (table_in c.start.new.draft) c.args.marks.now.entries c.args.stack.now.items c.in-Err.error
    (walk_at (table_in c.start.new.draft) c.mark.new.marks.entries c.args.stack.now.items) found none c.in-Err.ensures.turn
