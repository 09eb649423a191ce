use Rattle.std.proofs.Common.{[], Some, None, subst}
use Rattle.lf_model.specs.JsonBridge.{members_data}
use Rattle.lf_context.specs.DraftView.{table_in}
use Rattle.lf_context.specs.Walks.{Walk, walk_at, GoesOn}
use Rattle.lf_context.proofs.Walks.{walk-begins, goes-further, ends-later, made-ready, not-ready}
use Rattle.lf_context.proofs.define.make_ready.Goals as goal

pub loop-alloc-init : goal.loop-alloc-init
loop-alloc-init c =
    walk-begins (members_data c.args.members.now) (table_in c.args.draft.now) c.args.marks.now.entries c.args.name.now c.in_ok-first.first c.new-stack.result.items c.new-stack.ensures.items c.in_ok-first.ensures

pub loop-alloc-preserved : goal.loop-alloc-preserved
loop-alloc-preserved c =
    goes-further (members_data c.args.members.now) (walk_at (table_in c.args.draft.now) c.args.marks.now.entries [] (Some c.args.name.now))
    (walk_at (table_in c.loop-alloc.draft) c.loop-alloc.marks.entries c.loop-alloc.stack.items c.loop-alloc.asked)
    (walk_at (table_in c.step.new.draft) c.step.new.marks.entries c.step.new.stack.items c.in-Ok.next)
    c.loop-alloc.invariant c.in-Ok.ensures.0

pub loop-alloc-smaller : goal.loop-alloc-smaller
loop-alloc-smaller c = c.in-Ok.ensures.1

pub step-requires : goal.step-requires
step-requires c = rw c.loop-alloc-test.true at c.is_under_way.ensures

pub returns : goal.returns
returns c =
    let given = members_data c.args.members.now in
    let first : Walk = walk_at (table_in c.args.draft.now) c.args.marks.now.entries [] (Some c.args.name.now) in
    let l = c.loop-alloc in
    let over = rw c.loop-alloc-test.false at c.is_under_way.ensures in
    made-ready given (table_in c.args.draft.now) (table_in l.draft) c.args.marks.now.entries l.marks.entries c.args.name.now
    (subst (λ s. GoesOn given first (walk_at (table_in l.draft) l.marks.entries s None)) over.1
    (subst (λ a. GoesOn given first (walk_at (table_in l.draft) l.marks.entries l.stack.items a)) over.0 l.invariant))

pub returns-in-Err : goal.returns-in-Err
returns-in-Err c =
    let given = members_data c.args.members.now in
    let l = c.loop-alloc in
    not-ready given (table_in c.args.draft.now) (table_in c.step.new.draft) c.args.marks.now.entries c.step.new.marks.entries c.args.name.now c.in-Err.error
    (walk_at (table_in c.step.new.draft) c.step.new.marks.entries c.step.new.stack.items)
    (ends-later given (walk_at (table_in c.args.draft.now) c.args.marks.now.entries [] (Some c.args.name.now)) (walk_at (table_in l.draft) l.marks.entries l.stack.items l.asked) c.in-Err.error
    (walk_at (table_in c.step.new.draft) c.step.new.marks.entries c.step.new.stack.items) l.invariant c.in-Err.ensures)
