use Rattle.std.proofs.Common.{◌≡◌, ◌+◌, ℕ, List, drop, map}
use Rattle.lf_model.specs.TreeBridge.{tree_data}
use Rattle.def_documents.specs.Pruning.{label_count}
use Rattle.lf_tidy.specs.Counts.{count_in}
use Rattle.lf_tidy.proofs.count.label_counts.Given as goal

abbrev pub invariant-loop-tree : goal.invariant-loop-tree
invariant-loop-tree l =
    (label : List ℕ) → count_in l.counts label + label_count (map tree_data (drop l.tree-index l.tree-items)) label
    ≡ label_count (map tree_data l.tree-items) label
