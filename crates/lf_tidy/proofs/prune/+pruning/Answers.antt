use Rattle.std.proofs.Common.{◌∙◌, ap, map}
use Rattle.std.proofs.lemmas.List.{take_all}
use Rattle.lf_model.specs.TreeData.{nodes_of, entries_of, properties_of, reverses_of}
use Rattle.lf_model.specs.TreeBridge.{tree_data, entry_data, property_data, reverse_data}
use Rattle.def_documents.specs.Pruning.{prune_entries, prune_entry, prune_node, prune_nodes, prune_properties, prune_reverses}
use Rattle.lf_tidy.specs.Counts.{count_in}
use Rattle.lf_tidy.specs.Pruned.{pruned_property, pruned_reverse}
use Rattle.lf_tidy.proofs.Pruned.{nodes-pruned, entries-pruned, properties-pruned, reverses-pruned}
use Rattle.lf_tidy.proofs.prune.+pruning.Goals as goal

pub prune_trees-returns : goal.prune_trees-returns
prune_trees-returns t c =
    let counts = count_in c.args.counts.now in
    let xs = c.as_slice-tree-items.result.now in
    ap (λ ys. nodes_of (map tree_data ys)) c.from_vec.ensures
    ∙ ap nodes_of (c.loop-tree.invariant ∙ ap (λ ys. map (λ x. prune_node counts (tree_data x)) ys) (take_all c.loop-tree.tree-index xs c.loop-tree-test.false))
    ∙ nodes-pruned counts tree_data xs
    ∙ ap (λ ys. prune_nodes counts (nodes_of (map tree_data ys))) c.as_slice-tree-items.ensures

pub prune_props-returns : goal.prune_props-returns
prune_props-returns t c =
    let counts = count_in c.args.counts.now in
    let xs = c.as_slice-prop-items.result.now in
    ap (λ ys. properties_of (map property_data ys)) c.from_vec.ensures
    ∙ ap properties_of (c.loop-prop.invariant ∙ ap (λ ys. map (λ x. pruned_property counts (property_data x)) ys) (take_all c.loop-prop.prop-index xs c.loop-prop-test.false))
    ∙ properties-pruned counts property_data xs
    ∙ ap (λ ys. prune_properties counts (properties_of (map property_data ys))) c.as_slice-prop-items.ensures

pub prune_reverses-returns : goal.prune_reverses-returns
prune_reverses-returns t c =
    let counts = count_in c.args.counts.now in
    let xs = c.as_slice-reverse-items.result.now in
    ap (λ ys. reverses_of (map reverse_data ys)) c.from_vec.ensures
    ∙ ap reverses_of (c.loop-reverse.invariant ∙ ap (λ ys. map (λ x. pruned_reverse counts (reverse_data x)) ys) (take_all c.loop-reverse.reverse-index xs c.loop-reverse-test.false))
    ∙ reverses-pruned counts reverse_data xs
    ∙ ap (λ ys. prune_reverses counts (reverses_of (map reverse_data ys))) c.as_slice-reverse-items.ensures

pub prune_values-returns : goal.prune_values-returns
prune_values-returns t c =
    let counts = count_in c.args.counts.now in
    let xs = c.as_slice-value-items.result.now in
    ap (λ ys. entries_of (map entry_data ys)) c.from_vec.ensures
    ∙ ap entries_of (c.loop-value.invariant ∙ ap (λ ys. map (λ x. prune_entry counts (entry_data x)) ys) (take_all c.loop-value.value-index xs c.loop-value-test.false))
    ∙ entries-pruned counts entry_data xs
    ∙ ap (λ ys. prune_entries counts (entries_of (map entry_data ys))) c.as_slice-value-items.ensures
