use Rattle.std.proofs.Common.{◌≡◌, map, take}
use Rattle.lf_model.specs.TreeBridge.{tree_data, entry_data, property_data, reverse_data}
use Rattle.def_documents.specs.Pruning.{prune_entry, prune_node}
use Rattle.lf_tidy.specs.Counts.{count_in}
use Rattle.lf_tidy.specs.Pruned.{pruned_property, pruned_reverse}
use Rattle.lf_tidy.proofs.prune.+pruning.Given as goal

abbrev pub invariant-prune_trees-loop-tree : goal.invariant-prune_trees-loop-tree
invariant-prune_trees-loop-tree l =
    map tree_data l.pruned.items ≡ map (λ t. prune_node (count_in l.counts) (tree_data t)) (take l.tree-index l.tree-items)

abbrev pub invariant-prune_props-loop-prop : goal.invariant-prune_props-loop-prop
invariant-prune_props-loop-prop l =
    map property_data l.pruned.items
    ≡ map (λ p. pruned_property (count_in l.counts) (property_data p)) (take l.prop-index l.prop-items)

abbrev pub invariant-prune_reverses-loop-reverse : goal.invariant-prune_reverses-loop-reverse
invariant-prune_reverses-loop-reverse l =
    map reverse_data l.pruned.items
    ≡ map (λ r. pruned_reverse (count_in l.counts) (reverse_data r)) (take l.reverse-index l.reverse-items)

abbrev pub invariant-prune_values-loop-value : goal.invariant-prune_values-loop-value
invariant-prune_values-loop-value l =
    map entry_data l.pruned.items ≡ map (λ v. prune_entry (count_in l.counts) (entry_data v)) (take l.value-index l.value-items)
