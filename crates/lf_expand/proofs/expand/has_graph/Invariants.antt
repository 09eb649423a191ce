use Rattle.std.proofs.Common.{◌≡◌, drop, codes}
use Rattle.lf_model.specs.JsonBridge.{members_data}
use Rattle.def_contexts.specs.Frames.{without_key, has_graph}
use Rattle.lf_expand.proofs.expand.has_graph.Given as goal

abbrev pub invariant-loop-member : goal.invariant-loop-member
invariant-loop-member l =
    has_graph l.terms.table.now (without_key (codes "@context") (members_data l.members))
    ≡ has_graph l.terms.table.now (without_key (codes "@context") (members_data (drop l.member-index l.members)))
