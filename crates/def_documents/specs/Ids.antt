-- The blank ids of a tree: whether a node or reference of it has the id of a label.
use Rattle.std.specs.Prelude.{List, ℕ, Bool, false, ◌||◌, Option, Some, None}
use Rattle.lf_rdf.specs.declared.term.Term.{Term}
use Rattle.lf_rdf.specs.declared.term.Term.TheVariants.{Iri, Blank, Literal}
use Rattle.lf_rdf.specs.Equality.{text_eq}
use Rattle.lf_model.specs.TreeData.{TreeNode, tree, TreeNodes, no_nodes, node, TreeProperties, no_properties, property, TreeReverses, no_reverses, reverse, TreeEntry, node_entry, literal_entry, list_entry, fallback_entry, empty_fallback, TreeEntries, no_entries, entry}

abbrev pub is_id : List ℕ → Option Term → Bool
is_id label None = false
is_id label (Some (Iri iri)) = false
is_id label (Some (Blank other)) = text_eq other label
is_id label (Some (Literal lexical datatype language)) = false

abbrev mutual
  pub node_has_id : List ℕ → TreeNode → Bool
  node_has_id label (tree id types graph properties reverses) =
      is_id label id || nodes_have_id label graph || properties_have_id label properties
      || reverses_have_id label reverses

  pub nodes_have_id : List ℕ → TreeNodes → Bool
  nodes_have_id label no_nodes = false
  nodes_have_id label (node first rest) = node_has_id label first || nodes_have_id label rest

  pub properties_have_id : List ℕ → TreeProperties → Bool
  properties_have_id label no_properties = false
  properties_have_id label (property iri values rest) =
      entries_have_id label values || properties_have_id label rest

  pub reverses_have_id : List ℕ → TreeReverses → Bool
  reverses_have_id label no_reverses = false
  reverses_have_id label (reverse iri nodes rest) =
      nodes_have_id label nodes || reverses_have_id label rest

  pub entry_has_id : List ℕ → TreeEntry → Bool
  entry_has_id label (node_entry value) = node_has_id label value
  entry_has_id label (literal_entry literal) = false
  entry_has_id label (list_entry items) = entries_have_id label items
  entry_has_id label (fallback_entry value) = false
  entry_has_id label empty_fallback = false

  pub entries_have_id : List ℕ → TreeEntries → Bool
  entries_have_id label no_entries = false
  entries_have_id label (entry first rest) = entry_has_id label first || entries_have_id label rest
