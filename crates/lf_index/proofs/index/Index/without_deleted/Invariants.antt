use Rattle.std.proofs.Common.{◌≡◌, drop}
use Rattle.lf_rdf.specs.Equality.{quad_eq}
use Rattle.def_datasets.specs.Sorted.{without}
use Rattle.def_datasets.specs.Dataset.{deletions}
use Rattle.lf_index.specs.Applied.{latest}
use Rattle.lf_index.proofs.index.Index.without_deleted.Given as goal

abbrev pub invariant-loop-line : goal.invariant-loop-line
invariant-loop-line l = without quad_eq (latest l.made l.self) (deletions (drop l.line-index l.lines)) ≡ without quad_eq l.self (deletions l.lines)
