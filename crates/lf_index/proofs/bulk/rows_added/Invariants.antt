use Rattle.std.proofs.Common.{◌≡◌, ◌++◌, map, drop}
use Rattle.std.specs.Arc.{arc_value}
use Rattle.def_datasets.specs.Dataset.{additions}
use Rattle.lf_index.proofs.bulk.rows_added.Given as goal

abbrev pub invariant-loop-line : goal.invariant-loop-line
invariant-loop-line l = map arc_value l.rows.items ++ additions (drop l.line-index l.lines) ≡ additions l.lines
