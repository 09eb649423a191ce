use Rattle.lf_model.specs.JsonBridge.{json_data}
use Rattle.lf_context.specs.DraftView.{table_in}
use Rattle.lf_context.proofs.Walks.{start-type, start-ordinary}
use Rattle.lf_context.proofs.start.start.Goals as goal

pub returns-in-Type-clause-turn : goal.returns-in-Type-clause-turn
returns-in-Type-clause-turn c =
    start-type c.args.name.now (json_data c.args.value.now) (table_in c.args.draft.now) (table_in c.start_type.new.draft) c.start_type.result c.in-Type.ensures.0 c.in-Type.ensures.1 c.start_type.ensures.turn

pub returns-in-Type-clause-later : goal.returns-in-Type-clause-later
returns-in-Type-clause-later c = c.start_type.ensures.later c.args.name.now

pub returns-in-Ordinary-clause-turn : goal.returns-in-Ordinary-clause-turn
returns-in-Ordinary-clause-turn c =
    start-ordinary c.args.name.now (json_data c.args.value.now) (table_in c.args.draft.now) (table_in c.forget.new.self) c.begin.result c.in-Ordinary.ensures c.forget.ensures c.begin.ensures.turn
