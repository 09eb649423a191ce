-- The data of a framed tree, by a fold over the tree.
use Rattle.std.specs.Prelude.{ℕ, List, map}
use Rattle.lf_model.specs.declared.tree.Tree.{Tree, fold-Tree}
use Rattle.lf_model.specs.declared.tree.TreeProp.{TreeProp, fold-TreeProp}
use Rattle.lf_model.specs.declared.tree.TreeReverse.{TreeReverse, fold-TreeReverse}
use Rattle.lf_model.specs.declared.tree.TreeValue.{TreeValue, fold-TreeValue}
use Rattle.lf_model.specs.declared.tree.TreeValue.TheOpen.{Tree-F, TreeProp-F, TreeReverse-F, TreeValue-F}
use Rattle.lf_model.specs.TreeData.{TreeNode, tree, TreeNodes, nodes_of, TreeProperties, properties_of, TreeReverses, reverses_of, TreeEntry, node_entry, literal_entry, list_entry, fallback_entry, empty_fallback, TreeEntries, entries_of}

-- a property IRI and its values, or a reverse property IRI and its nodes
abbrev pub Property : Type 0
Property = List ℕ × TreeEntries

abbrev pub Reverse : Type 0
Reverse = List ℕ × TreeNodes

-- one level, with all below already seen as its data
abbrev pub tree_step : Tree-F TreeEntry TreeNode Property Reverse → TreeNode
tree_step t = tree t.id t.types (nodes_of t.graph) (properties_of t.props) (reverses_of t.reverse)

abbrev pub property_step : TreeProp-F TreeEntry TreeNode Property Reverse → Property
property_step p = (p.property, entries_of p.values)

abbrev pub reverse_step : TreeReverse-F TreeEntry TreeNode Property Reverse → Reverse
reverse_step r = (r.property, nodes_of r.nodes)

abbrev pub entry_step : TreeValue-F TreeEntry TreeNode Property Reverse → TreeEntry
entry_step (TreeValue-F.Node t) = node_entry t
entry_step (TreeValue-F.Literal term) = literal_entry term
entry_step (TreeValue-F.List values) = list_entry (entries_of values)
entry_step (TreeValue-F.Fallback fallback) = fallback_entry fallback
entry_step TreeValue-F.EmptyFallback = empty_fallback

abbrev pub tree_data : Tree → TreeNode
tree_data = fold-Tree TreeEntry TreeNode Property Reverse entry_step tree_step property_step reverse_step

abbrev pub property_data : TreeProp → Property
property_data = fold-TreeProp TreeEntry TreeNode Property Reverse entry_step tree_step property_step reverse_step

abbrev pub reverse_data : TreeReverse → Reverse
reverse_data = fold-TreeReverse TreeEntry TreeNode Property Reverse entry_step tree_step property_step reverse_step

abbrev pub entry_data : TreeValue → TreeEntry
entry_data = fold-TreeValue TreeEntry TreeNode Property Reverse entry_step tree_step property_step reverse_step

-- the same of lists
abbrev pub nodes_data : List Tree → TreeNodes
nodes_data trees = nodes_of (map tree_data trees)

abbrev pub properties_data : List TreeProp → TreeProperties
properties_data props = properties_of (map property_data props)

abbrev pub reverses_data : List TreeReverse → TreeReverses
reverses_data reverses = reverses_of (map reverse_data reverses)

abbrev pub entries_data : List TreeValue → TreeEntries
entries_data values = entries_of (map entry_data values)
