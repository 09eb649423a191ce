-- Worked cases: ids of blank nodes that occur once, and twice.
use Rattle.std.specs.Prelude.{◌≡◌, refl, [], ◌∷◌, codes}
use Rattle.def_framing.specs.Items.{node_items}
use Rattle.lf_rdf.specs.Vocabulary.{xsd_string}
use Rattle.lf_model.specs.declared.document.Doc.TheVariants.{Bytes}
use Rattle.lf_model.specs.TreeData.{TreeNode, node_entry}
use Rattle.def_selection.specs.Keywords.{selection_open}
use Rattle.def_documents.specs.CaseData.{blank_of, no_context, no_terms, node_of, one, plain}
use Rattle.def_documents.specs.Pruning.{label_count}
use Rattle.def_framing.specs.Outcome.{matched, not_key}
use Rattle.def_documents.specs.Document.{document, most_items, most_bytes}

abbrev lone_blank : TreeNode
lone_blank = blank_of (codes "b") (one (codes "http://e/p") (plain (codes "1")) ∷ [])

abbrev named : TreeNode
named = node_of (codes "http://e/a") (one (codes "http://e/p") (plain (codes "2")) ∷ [])

abbrev shared : TreeNode
shared = blank_of (codes "x") (one (codes "http://e/q") (plain (codes "1")) ∷ [])

abbrev first_tree : TreeNode
first_tree = node_of (codes "http://e/a") (one (codes "http://e/p") (node_entry shared) ∷ [])

abbrev second_tree : TreeNode
second_tree = node_of (codes "http://e/b") (one (codes "http://e/p") (node_entry shared) ∷ [])

-- the label occurs once, so the node has no id
pub blank_pruned :
    document no_terms no_context (matched lone_blank ∷ matched named ∷ [])
    ≡ Bytes (codes
    "{\"@graph\":[{\"http://e/p\":\"1\"},{\"@id\":\"http://e/a\",\"http://e/p\":\"2\"}]}")
unfolding xsd_string selection_open most_items most_bytes node_items
blank_pruned = refl

-- the count is over all trees of the document: two trees share the node, and it keeps its id in
-- both
pub shared_blank :
    document no_terms no_context (matched first_tree ∷ matched second_tree ∷ not_key ∷ [])
    ≡ Bytes (codes "{\"@graph\":[{\"@id\":\"http://e/a\",\"http://e/p\":{\"@id\":\"_:x\",\"http://e/q\":\"1\"}},{\"@id\":\"http://e/b\",\"http://e/p\":{\"@id\":\"_:x\",\"http://e/q\":\"1\"}}]}")
unfolding xsd_string selection_open most_items most_bytes node_items
shared_blank = refl

pub shared_count : label_count (first_tree ∷ second_tree ∷ []) (codes "x") ≡ 2
shared_count = refl

-- without the second tree the label occurs once
pub left_blank :
    document no_terms no_context (matched first_tree ∷ [])
    ≡ Bytes (codes "{\"@id\":\"http://e/a\",\"http://e/p\":{\"http://e/q\":\"1\"}}")
unfolding xsd_string selection_open most_items most_bytes node_items
left_blank = refl
