use Rattle.std.proofs.Common.{◌≡◌, drop}
use Rattle.lf_model.specs.JsonBridge.{members_data}
use Rattle.def_contexts.specs.FrameKeys.{are_all_keywords}
use Rattle.lf_expand.proofs.class.are_all_keywords.Given as goal

abbrev pub invariant-loop-member : goal.invariant-loop-member
invariant-loop-member l =
    are_all_keywords l.terms.table.now (members_data l.member-items) ≡ are_all_keywords l.terms.table.now (members_data (drop l.member-index l.member-items))
