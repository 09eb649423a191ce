use Rattle.std.proofs.Common.{sym, subst}
use Rattle.lf_model.specs.JsonBridge.{members_data}
use Rattle.lf_context.specs.DraftView.{table_in}
use Rattle.lf_context.specs.Walks.{walk_at, Advances}
use Rattle.lf_context.proofs.define.step.Goals as goal

pub returns-in-None : goal.returns-in-None
returns-in-None c =
    subst (λ a. Advances (members_data c.args.members.now) (walk_at (table_in c.args.draft.now) c.args.marks.now.entries c.args.stack.now.items a) (walk_at (table_in c.go_on.new.draft) c.go_on.new.marks.entries c.go_on.new.stack.items) c.go_on.result)
    (sym c.in-None.is) (c.go_on.ensures (members_data c.args.members.now))
