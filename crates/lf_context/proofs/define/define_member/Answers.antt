use Rattle.std.proofs.Common.{ap, sym, ◌∙◌}
use Rattle.lf_model.specs.JsonBridge.{members_data}
use Rattle.def_contexts.specs.Table.{is_context_key}
use Rattle.lf_context.specs.DraftView.{table_in}
use Rattle.lf_context.proofs.Each.{furthers-past, furthers-ready}
use Rattle.lf_context.proofs.define.define_member.Goals as goal

pub returns-then-is_context_key : goal.returns-then-is_context_key
returns-then-is_context_key c =
    furthers-past (members_data c.args.members.now) (table_in c.args.draft.now) c.args.marks.now.entries c.args.key.now
    (ap is_context_key (sym c.as_str.ensures) ∙ sym c.is_context_key.ensures ∙ c.if-is_context_key.true)

pub returns : goal.returns
returns c =
    furthers-ready (members_data c.args.members.now) (table_in c.args.draft.now) (table_in c.make_ready.new.draft) c.args.marks.now.entries c.make_ready.new.marks.entries c.args.key.now c.make_ready.result
    (ap is_context_key (sym c.as_str.ensures) ∙ sym c.is_context_key.ensures ∙ c.if-is_context_key.false) c.make_ready.ensures
