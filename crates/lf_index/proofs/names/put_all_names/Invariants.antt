use Rattle.std.proofs.Common.{◌≡◌, ◌++◌}
use Rattle.lf_ptree.specs.Pairs.{keys}
use Rattle.lf_ptree.specs.Ranges.{pairs_left}
use Rattle.lf_index.proofs.names.put_all_names.Given as goal

abbrev pub invariant-loop-pair : goal.invariant-loop-pair
invariant-loop-pair l = l.found.items ++ keys (pairs_left l.pair-iterator) ≡ l.initial.found.items ++ keys l.names
