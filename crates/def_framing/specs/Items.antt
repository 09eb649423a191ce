-- The items of a tree: each node object, a reference included, each literal value, list object and
-- default value.
use Rattle.std.specs.Prelude.{ℕ, ◌+◌}
use Rattle.lf_model.specs.TreeData.{TreeNode, TreeNodes, TreeProperties, TreeReverses, TreeEntry, TreeEntries, tree, no_nodes, node, no_properties, property, no_reverses, reverse, node_entry, literal_entry, list_entry, fallback_entry, empty_fallback, no_entries, entry}

unfoldable mutual
  pub node_items : TreeNode → ℕ
  node_items (tree id types nodes props reverses) =
      1 + (nodes_items nodes + (properties_items props + reverses_items reverses))

  pub nodes_items : TreeNodes → ℕ
  nodes_items no_nodes = 0
  nodes_items (node first rest) = node_items first + nodes_items rest

  pub properties_items : TreeProperties → ℕ
  properties_items no_properties = 0
  properties_items (property iri values rest) = entries_items values + properties_items rest

  pub reverses_items : TreeReverses → ℕ
  reverses_items no_reverses = 0
  reverses_items (reverse iri nodes rest) = nodes_items nodes + reverses_items rest

  -- an empty default is no item
  pub entry_items : TreeEntry → ℕ
  entry_items (node_entry made) = node_items made
  entry_items (literal_entry term) = 1
  entry_items (list_entry items) = 1 + entries_items items
  entry_items (fallback_entry held) = 1
  entry_items empty_fallback = 0

  pub entries_items : TreeEntries → ℕ
  entries_items no_entries = 0
  entries_items (entry first rest) = entry_items first + entries_items rest
