use Rattle.std.proofs.Common.{drop}
use Rattle.lf_model.specs.JsonBridge.{members_data}
use Rattle.lf_context.specs.DraftView.{table_in}
use Rattle.lf_context.specs.Walks.{IsOnItsWay}
use Rattle.lf_context.proofs.define.define_terms.Given as goal

abbrev pub invariant-loop-member : goal.invariant-loop-member
invariant-loop-member l =
    IsOnItsWay (members_data l.members) (table_in l.initial.draft) (table_in l.draft) l.marks.entries (members_data (drop l.member-index l.member-items))
