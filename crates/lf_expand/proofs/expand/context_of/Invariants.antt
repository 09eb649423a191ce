use Rattle.std.proofs.Common.{◌≡◌, drop, codes}
use Rattle.lf_model.specs.JsonBridge.{members_data}
use Rattle.def_contexts.specs.Members.{value_of}
use Rattle.lf_expand.proofs.expand.context_of.Given as goal

abbrev pub invariant-loop-member : goal.invariant-loop-member
invariant-loop-member l =
    value_of (codes "@context") (members_data l.members) ≡ value_of (codes "@context") (members_data (drop l.member-index l.members))
