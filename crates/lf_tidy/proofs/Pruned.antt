-- Pruning list by list.
use Rattle.std.proofs.Common.{◌≡◌, ℕ, List, [], ◌∷◌, map, refl, ap}
use Rattle.lf_model.specs.TreeData.{TreeNode, TreeEntry, node, entry, property, reverse, nodes_of, entries_of, properties_of, reverses_of}
use Rattle.lf_model.specs.TreeBridge.{Property, Reverse}
use Rattle.def_documents.specs.Pruning.{prune_entries, prune_entry, prune_node, prune_nodes, prune_properties, prune_reverses}
use Rattle.lf_tidy.specs.Pruned.{pruned_property, pruned_reverse}

module _ (counts : List ℕ → ℕ) where
  pub nodes-pruned : {X : Type 0} (data_of : X → TreeNode) (xs : List X) →
      nodes_of (map (λ x. prune_node counts (data_of x)) xs) ≡ prune_nodes counts (nodes_of (map data_of xs))
  nodes-pruned data_of [] = refl
  nodes-pruned data_of (x ∷ xs) = ap (node (prune_node counts (data_of x))) (nodes-pruned data_of xs)

  pub entries-pruned : {X : Type 0} (data_of : X → TreeEntry) (xs : List X) →
      entries_of (map (λ x. prune_entry counts (data_of x)) xs) ≡ prune_entries counts (entries_of (map data_of xs))
  entries-pruned data_of [] = refl
  entries-pruned data_of (x ∷ xs) = ap (entry (prune_entry counts (data_of x))) (entries-pruned data_of xs)

  pub properties-pruned : {X : Type 0} (data_of : X → Property) (xs : List X) →
      properties_of (map (λ x. pruned_property counts (data_of x)) xs) ≡ prune_properties counts (properties_of (map data_of xs))
  properties-pruned data_of [] = refl
  properties-pruned data_of (x ∷ xs) = ap (property (data_of x).0 (prune_entries counts (data_of x).1)) (properties-pruned data_of xs)

  pub reverses-pruned : {X : Type 0} (data_of : X → Reverse) (xs : List X) →
      reverses_of (map (λ x. pruned_reverse counts (data_of x)) xs) ≡ prune_reverses counts (reverses_of (map data_of xs))
  reverses-pruned data_of [] = refl
  reverses-pruned data_of (x ∷ xs) = ap (reverse (data_of x).0 (prune_nodes counts (data_of x).1)) (reverses-pruned data_of xs)
