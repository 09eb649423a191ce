-- How deep a tree nests node objects, references included.
use Rattle.std.specs.Prelude.{ℕ, ◌+◌, max}
use Rattle.lf_model.specs.TreeData.{TreeNode, TreeNodes, TreeProperties, TreeReverses, TreeEntry, TreeEntries, tree, no_nodes, node, no_properties, property, no_reverses, reverse, node_entry, literal_entry, list_entry, fallback_entry, empty_fallback, no_entries, entry}

unfoldable mutual
  pub node_depth : TreeNode → ℕ
  node_depth (tree id types nodes props reverses) =
      1 + max (nodes_depth nodes) (max (properties_depth props) (reverses_depth reverses))

  pub nodes_depth : TreeNodes → ℕ
  nodes_depth no_nodes = 0
  nodes_depth (node first rest) = max (node_depth first) (nodes_depth rest)

  pub properties_depth : TreeProperties → ℕ
  properties_depth no_properties = 0
  properties_depth (property iri values rest) = max (entries_depth values) (properties_depth rest)

  pub reverses_depth : TreeReverses → ℕ
  reverses_depth no_reverses = 0
  reverses_depth (reverse iri nodes rest) = max (nodes_depth nodes) (reverses_depth rest)

  pub entry_depth : TreeEntry → ℕ
  entry_depth (node_entry made) = node_depth made
  entry_depth (literal_entry term) = 0
  entry_depth (list_entry items) = entries_depth items
  entry_depth (fallback_entry held) = 0
  entry_depth empty_fallback = 0

  pub entries_depth : TreeEntries → ℕ
  entries_depth no_entries = 0
  entries_depth (entry first rest) = max (entry_depth first) (entries_depth rest)
