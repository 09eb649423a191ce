use Rattle.std.proofs.Common.{◌≡◌, take}
use Rattle.lf_nodes.proofs.members.by_ids.Given as goal

abbrev pub invariant-loop-term : goal.invariant-loop-term
invariant-loop-term l = l.found.items ≡ take l.term-index l.terms
