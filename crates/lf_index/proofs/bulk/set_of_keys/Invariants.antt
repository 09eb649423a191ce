use Rattle.std.proofs.Common.{◌≡◌, ◌++◌}
use Rattle.lf_ptree.specs.Pairs.{keys}
use Rattle.lf_index.proofs.bulk.set_of_keys.Given as goal

abbrev pub invariant-loop-key : goal.invariant-loop-key
invariant-loop-key g l = keys l.pairs.items ++ l.key-iterator.rest.items ≡ l.fn.sorted.items
