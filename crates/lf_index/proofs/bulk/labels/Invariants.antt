use Rattle.std.proofs.Common.{◌≡◌, ◌++◌, map, drop, flat_map}
use Rattle.std.specs.Arc.{arc_value}
use Rattle.def_datasets.specs.Terms.{label_terms}
use Rattle.lf_index.proofs.bulk.labels.Given as goal

abbrev pub invariant-loop-row : goal.invariant-loop-row
invariant-loop-row l =
    l.names.items ++ flat_map (λ q. label_terms q.graph) (map arc_value (drop l.row-index l.rows)) ≡ flat_map (λ q. label_terms q.graph) (map arc_value l.rows)
