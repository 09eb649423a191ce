-- The items of what is left of a list are those of its first and of the others.
use Rattle.std.proofs.Common.{◌≡◌, ℕ, ◌+◌, ◌<◌, ◌≤◌, List, length, drop, get_or, ap, ◌∙◌}
use Rattle.lf_model.specs.declared.tree.Tree.{Tree}
use Rattle.lf_model.specs.declared.tree.TreeProp.{TreeProp, out-TreeProp}
use Rattle.lf_model.specs.declared.tree.TreeReverse.{TreeReverse, out-TreeReverse}
use Rattle.lf_model.specs.declared.tree.TreeValue.{TreeValue}
use Rattle.lf_model.specs.TreeData.{nodes_of, entries_of, properties_of, reverses_of}
use Rattle.lf_model.specs.TreeBridge.{entries_data, entry_data, nodes_data, properties_data, property_data, reverse_data, reverses_data, tree_data}
use Rattle.lf_model.proofs.TreeLemmas.{property_data_out, reverse_data_out}
use Rattle.def_framing.specs.Items.{entries_items, entry_items, node_items, nodes_items, properties_items, reverses_items}
use Rattle.lf_doc.proofs.Rests.{rest_next, rest_none}

pub nodes-next : (xs : List Tree) (i : ℕ) (x : Tree) → i < length xs → x ≡ get_or xs i x
    → nodes_items (nodes_data (drop i xs)) ≡ node_items (tree_data x) + nodes_items (nodes_data (drop (i + 1) xs))
unfolding node_items
nodes-next xs i x within is = ap (λ l. nodes_items (nodes_of l)) (rest_next tree_data xs i x within is)

pub nodes-none : (xs : List Tree) (i : ℕ) → length xs ≤ i → nodes_items (nodes_data (drop i xs)) ≡ 0
unfolding node_items
nodes-none xs i done = ap (λ l. nodes_items (nodes_of l)) (rest_none tree_data xs i done)

pub entries-next : (xs : List TreeValue) (i : ℕ) (x : TreeValue) → i < length xs → x ≡ get_or xs i x
    → entries_items (entries_data (drop i xs)) ≡ entry_items (entry_data x) + entries_items (entries_data (drop (i + 1) xs))
unfolding node_items
entries-next xs i x within is = ap (λ l. entries_items (entries_of l)) (rest_next entry_data xs i x within is)

pub entries-none : (xs : List TreeValue) (i : ℕ) → length xs ≤ i → entries_items (entries_data (drop i xs)) ≡ 0
unfolding node_items
entries-none xs i done = ap (λ l. entries_items (entries_of l)) (rest_none entry_data xs i done)

pub properties-next : (xs : List TreeProp) (i : ℕ) (x : TreeProp) → i < length xs → x ≡ get_or xs i x
    → properties_items (properties_data (drop i xs)) ≡ entries_items (entries_data (out-TreeProp x).values) + properties_items (properties_data (drop (i + 1) xs))
unfolding node_items
properties-next xs i x within is =
    ap (λ l. properties_items (properties_of l)) (rest_next property_data xs i x within is)
    ∙ ap (λ p. entries_items p.1 + properties_items (properties_data (drop (i + 1) xs))) (property_data_out x)

pub properties-none : (xs : List TreeProp) (i : ℕ) → length xs ≤ i → properties_items (properties_data (drop i xs)) ≡ 0
unfolding node_items
properties-none xs i done = ap (λ l. properties_items (properties_of l)) (rest_none property_data xs i done)

pub reverses-next : (xs : List TreeReverse) (i : ℕ) (x : TreeReverse) → i < length xs → x ≡ get_or xs i x
    → reverses_items (reverses_data (drop i xs)) ≡ nodes_items (nodes_data (out-TreeReverse x).nodes) + reverses_items (reverses_data (drop (i + 1) xs))
unfolding node_items
reverses-next xs i x within is =
    ap (λ l. reverses_items (reverses_of l)) (rest_next reverse_data xs i x within is)
    ∙ ap (λ r. nodes_items r.1 + reverses_items (reverses_data (drop (i + 1) xs))) (reverse_data_out x)

pub reverses-none : (xs : List TreeReverse) (i : ℕ) → length xs ≤ i → reverses_items (reverses_data (drop i xs)) ≡ 0
unfolding node_items
reverses-none xs i done = ap (λ l. reverses_items (reverses_of l)) (rest_none reverse_data xs i done)
