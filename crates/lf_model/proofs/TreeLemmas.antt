-- The data of each part of a framed tree.
use Rattle.std.proofs.Common.{◌≡◌, List, rules}
use Rattle.lf_rdf.specs.declared.term.Term.{Term}
use Rattle.lf_model.specs.declared.frame.DefaultValue.{DefaultValue}
use Rattle.lf_model.specs.declared.tree.Tree.{Tree, out-Tree, roll-Tree}
use Rattle.lf_model.specs.declared.tree.TreeProp.{TreeProp, out-TreeProp, roll-TreeProp}
use Rattle.lf_model.specs.declared.tree.TreeReverse.{TreeReverse, out-TreeReverse, roll-TreeReverse}
use Rattle.lf_model.specs.declared.tree.TreeValue.{TreeValue, the_lemmas}
use Rattle.lf_model.specs.declared.tree.TreeValue.TheOpen.{Tree-F, TreeProp-F, TreeReverse-F}
use Rattle.lf_model.specs.declared.tree.TreeValue.TheVariants as v
use Rattle.lf_model.specs.TreeData.{tree, node_entry, literal_entry, list_entry, fallback_entry, empty_fallback}
use Rattle.lf_model.specs.TreeBridge.{tree_data, property_data, reverse_data, entry_data, nodes_data, properties_data, reverses_data, entries_data}

pub tree_data_out : (t : Tree) → tree_data t ≡ tree (out-Tree t).id (out-Tree t).types (nodes_data (out-Tree t).graph) (properties_data (out-Tree t).props) (reverses_data (out-Tree t).reverse)
tree_data_out t = search (rules, the_lemmas)

pub tree_data-roll : (t : Tree-F TreeValue Tree TreeProp TreeReverse) → tree_data (roll-Tree t) ≡ tree t.id t.types (nodes_data t.graph) (properties_data t.props) (reverses_data t.reverse)
tree_data-roll t = search (rules, the_lemmas)

pub property_data_out : (p : TreeProp) → property_data p ≡ ((out-TreeProp p).property, entries_data (out-TreeProp p).values)
property_data_out p = search (rules, the_lemmas)

pub property_data-roll : (p : TreeProp-F TreeValue Tree TreeProp TreeReverse) → property_data (roll-TreeProp p) ≡ (p.property, entries_data p.values)
property_data-roll p = search (rules, the_lemmas)

pub reverse_data_out : (r : TreeReverse) → reverse_data r ≡ ((out-TreeReverse r).property, nodes_data (out-TreeReverse r).nodes)
reverse_data_out r = search (rules, the_lemmas)

pub reverse_data-roll : (r : TreeReverse-F TreeValue Tree TreeProp TreeReverse) → reverse_data (roll-TreeReverse r) ≡ (r.property, nodes_data r.nodes)
reverse_data-roll r = search (rules, the_lemmas)

pub entry_data-Node : (t : Tree) → entry_data (v.Node t) ≡ node_entry (tree_data t)
entry_data-Node t = search (rules, the_lemmas)

pub entry_data-Literal : (term : Term) → entry_data (v.Literal term) ≡ literal_entry term
entry_data-Literal term = search (rules, the_lemmas)

pub entry_data-List : (values : List TreeValue) → entry_data (v.List values) ≡ list_entry (entries_data values)
entry_data-List values = search (rules, the_lemmas)

pub entry_data-Fallback : (fallback : DefaultValue) → entry_data (v.Fallback fallback) ≡ fallback_entry fallback
entry_data-Fallback fallback = search (rules, the_lemmas)

pub entry_data-EmptyFallback : entry_data v.EmptyFallback ≡ empty_fallback
entry_data-EmptyFallback = search (rules, the_lemmas)

pub ruleset tree_cases = (tree_data_out, tree_data-roll, property_data_out, property_data-roll, reverse_data_out, reverse_data-roll, entry_data-Node, entry_data-Literal, entry_data-List, entry_data-Fallback, entry_data-EmptyFallback)
