use Rattle.std.proofs.Common.{◌≡◌, ◌++◌, map}
use Rattle.std.specs.Arc.{arc_value}
use Rattle.lf_index.proofs.bulk.keys_by_subject.Given as goal

abbrev pub invariant-loop-row : goal.invariant-loop-row
invariant-loop-row l = l.keys.items ++ map arc_value l.row-iterator.rest.items ≡ map arc_value l.fn.rows.items
