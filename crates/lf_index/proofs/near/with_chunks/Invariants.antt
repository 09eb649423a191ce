use Rattle.std.proofs.Common.{◌≡◌, ◌++◌}
use Rattle.lf_index.specs.Near.{values_of}
use Rattle.lf_index.proofs.near.with_chunks.Given as goal

abbrev pub invariant-loop-value : goal.invariant-loop-value
invariant-loop-value g l = values_of l.marked.items ++ l.value-iterator.rest.items ≡ l.fn.values.items
