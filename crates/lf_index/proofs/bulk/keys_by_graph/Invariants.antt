use Rattle.std.proofs.Common.{◌≡◌, take}
use Rattle.lf_index.proofs.bulk.keys_by_graph.Given as goal

abbrev pub invariant-loop-key : goal.invariant-loop-key
invariant-loop-key l = l.keys.items ≡ take l.key-index l.subjects
