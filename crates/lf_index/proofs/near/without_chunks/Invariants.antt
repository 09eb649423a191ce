use Rattle.std.proofs.Common.{◌≡◌, ◌++◌}
use Rattle.lf_index.specs.Near.{values_of}
use Rattle.lf_index.proofs.near.without_chunks.Given as goal

abbrev pub invariant-loop-one : goal.invariant-loop-one
invariant-loop-one g l = l.values.items ++ values_of l.one-iterator.rest.items ≡ values_of l.fn.marked.items
