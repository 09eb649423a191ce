use Rattle.std.proofs.Common.{◌≡◌, ◌+◌, ℕ, List, drop}
use Rattle.lf_model.specs.TreeBridge.{nodes_data, entries_data, properties_data, reverses_data}
use Rattle.def_documents.specs.Pruning.{count_entries, count_nodes, count_properties, count_reverses}
use Rattle.lf_tidy.specs.Counts.{count_in}
use Rattle.lf_tidy.proofs.count.+counting.Given as goal

abbrev pub invariant-count_trees-loop-tree : goal.invariant-count_trees-loop-tree
invariant-count_trees-loop-tree l =
    (label : List ℕ) → count_in l.counts label + count_nodes label (nodes_data (drop l.tree-index l.tree-items))
    ≡ count_in l.initial.counts label + count_nodes label (nodes_data l.tree-items)

abbrev pub invariant-count_props-loop-prop : goal.invariant-count_props-loop-prop
invariant-count_props-loop-prop l =
    (label : List ℕ) → count_in l.counts label + count_properties label (properties_data (drop l.prop-index l.prop-items))
    ≡ count_in l.initial.counts label + count_properties label (properties_data l.prop-items)

abbrev pub invariant-count_reverses-loop-reverse : goal.invariant-count_reverses-loop-reverse
invariant-count_reverses-loop-reverse l =
    (label : List ℕ) → count_in l.counts label + count_reverses label (reverses_data (drop l.reverse-index l.reverse-items))
    ≡ count_in l.initial.counts label + count_reverses label (reverses_data l.reverse-items)

abbrev pub invariant-count_values-loop-value : goal.invariant-count_values-loop-value
invariant-count_values-loop-value l =
    (label : List ℕ) → count_in l.counts label + count_entries label (entries_data (drop l.value-index l.value-items))
    ≡ count_in l.initial.counts label + count_entries label (entries_data l.value-items)
