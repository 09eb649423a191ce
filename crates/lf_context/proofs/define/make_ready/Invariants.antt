use Rattle.std.proofs.Common.{[], Some}
use Rattle.lf_model.specs.JsonBridge.{members_data}
use Rattle.lf_context.specs.DraftView.{table_in}
use Rattle.lf_context.specs.Walks.{walk_at, GoesOn, weight}
use Rattle.lf_context.proofs.define.make_ready.Given as goal

abbrev pub invariant-loop-alloc : goal.invariant-loop-alloc
invariant-loop-alloc l =
    GoesOn (members_data l.members) (walk_at (table_in l.initial.draft) l.initial.marks.entries [] (Some l.name)) (walk_at (table_in l.draft) l.marks.entries l.stack.items l.asked)

abbrev pub decreases-loop-alloc : goal.decreases-loop-alloc
decreases-loop-alloc l = weight (members_data l.members) (walk_at (table_in l.draft) l.marks.entries l.stack.items l.asked)
