use Rattle.std.proofs.Common.{Some, None, refl, sym, subst}
use Rattle.lf_model.specs.JsonBridge.{json_data}
use Rattle.lf_context.specs.declared.walk.Begun.{Begun}
use Rattle.lf_context.specs.DraftView.{table_in}
use Rattle.lf_context.specs.Walks.{walk_at, TakesUp}
use Rattle.lf_context.proofs.Walks.{takes-asks, takes-settled, takes-defined}
use Rattle.lf_context.proofs.define.take_up.Goals as goal

pub returns-in_ok-push-in-Asks : goal.returns-in_ok-push-in-Asks
returns-in_ok-push-in-Asks c =
    let f : Begun = record { name = c.in_ok-name-in-Asks.name; value = c.args.value; rest = c.in-Asks.rest } in
    let table = table_in c.args.draft.now in
    let marks = c.args.marks.now.entries in
    let items = c.args.stack.now.items in
    let after = c.push.new.self.items in
    subst (λ t. TakesUp c.args.name.now (json_data c.args.value.now) t (walk_at table marks items None) (walk_at table marks after (Some c.in-Asks.asked))) (sym c.in-Asks.is)
    (takes-asks c.args.name.now (json_data c.args.value.now) f c.in-Asks.asked table marks items after c.in_ok-name-in-Asks.ensures refl c.in_ok-push-in-Asks.ensures.items)

pub returns-in_ok-mark-in-Settled : goal.returns-in_ok-mark-in-Settled
returns-in_ok-mark-in-Settled c =
    let table = table_in c.args.draft.now in
    let items = c.args.stack.now.items in
    subst (λ t. TakesUp c.args.name.now (json_data c.args.value.now) t (walk_at table c.args.marks.now.entries items None) (walk_at table c.mark.new.marks.entries items None)) (sym c.in-Settled.is)
    (takes-settled c.args.name.now (json_data c.args.value.now) table c.args.marks.now.entries c.mark.new.marks.entries items c.in_ok-mark-in-Settled.ensures)

pub returns-in_ok-mark-in-Defined : goal.returns-in_ok-mark-in-Defined
returns-in_ok-mark-in-Defined c =
    let items = c.args.stack.now.items in
    subst (λ t. TakesUp c.args.name.now (json_data c.args.value.now) t (walk_at (table_in c.args.draft.now) c.args.marks.now.entries items None) (walk_at (table_in c.put.new.self) c.mark-in-Defined.new.marks.entries items None)) (sym c.in-Defined.is)
    (takes-defined c.args.name.now (json_data c.args.value.now) c.in-Defined.definition (table_in c.args.draft.now) (table_in c.put.new.self) c.args.marks.now.entries c.mark-in-Defined.new.marks.entries items c.in_ok-put-in-Defined.ensures c.in_ok-mark-in-Defined.ensures)
