use Rattle.lf_model.specs.JsonBridge.{json_data, members_data}
use Rattle.def_contexts.specs.Defining.{entry_value}
use Rattle.def_contexts.specs.Table.{terms_of}
use Rattle.lf_context.specs.DraftView.{table_in}
use Rattle.lf_context.specs.Marks.{mark_at}
use Rattle.lf_context.specs.Walks.{walk_at}
use Rattle.lf_context.proofs.Marks.{waits}
use Rattle.lf_context.proofs.Walks.{steps-ready, steps-cycle}
use Rattle.lf_context.proofs.define.need.Goals as goal

pub returns-in-Ready : goal.returns-in-Ready
returns-in-Ready c = steps-ready (members_data c.args.members.now) (table_in c.args.draft.now) c.args.marks.now.entries c.args.stack.now.items c.args.asked.now c.in-Ready.ensures

pub returns-in-Begun : goal.returns-in-Begun
returns-in-Begun c = steps-cycle (members_data c.args.members.now) (table_in c.args.draft.now) c.args.marks.now.entries c.args.stack.now.items c.args.asked.now
    (walk_at (table_in c.args.draft.now) c.args.marks.now.entries c.args.stack.now.items) c.in-Begun.ensures

pub returns-in-Waiting : goal.returns-in-Waiting
returns-in-Waiting c =
    let w = waits (mark_at c.args.asked.now c.args.marks.now.entries) (entry_value c.args.asked.now (terms_of (members_data c.args.members.now))) (json_data c.in-Waiting.value.now) c.in-Waiting.ensures in
    c.begin_term.ensures (members_data c.args.members.now) w.1 w.0
