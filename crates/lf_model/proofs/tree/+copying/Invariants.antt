use Rattle.std.proofs.Common.{◌≡◌, take}
use Rattle.lf_model.proofs.tree.+copying.Given as goal

abbrev pub invariant-copy_trees-loop-tree : goal.invariant-copy_trees-loop-tree
invariant-copy_trees-loop-tree l = l.copied.items ≡ take l.tree-index l.tree-items

abbrev pub invariant-copy_props-loop-prop : goal.invariant-copy_props-loop-prop
invariant-copy_props-loop-prop l = l.copied.items ≡ take l.prop-index l.prop-items

abbrev pub invariant-copy_reverses-loop-reverse : goal.invariant-copy_reverses-loop-reverse
invariant-copy_reverses-loop-reverse l = l.copied.items ≡ take l.reverse-index l.reverse-items

abbrev pub invariant-copy_values-loop-value : goal.invariant-copy_values-loop-value
invariant-copy_values-loop-value l = l.copied.items ≡ take l.value-index l.value-items
