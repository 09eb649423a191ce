use Rattle.std.proofs.Common.{◌≡◌, drop}
use Rattle.def_datasets.specs.Sorted.{put_all}
use Rattle.def_datasets.specs.Order.{quad_cmp}
use Rattle.def_datasets.specs.Dataset.{additions}
use Rattle.lf_index.specs.Applied.{latest}
use Rattle.lf_index.proofs.index.Index.with_added.Given as goal

abbrev pub invariant-loop-line : goal.invariant-loop-line
invariant-loop-line l = put_all quad_cmp (latest l.made l.self) (additions (drop l.line-index l.lines)) ≡ put_all quad_cmp (latest l.fn.fewer l.self) (additions l.lines)
