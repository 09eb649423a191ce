-- Worked cases: documents without a tree, and limits.
use Rattle.std.specs.Prelude.{◌≡◌, refl, [], ◌∷◌, Some, codes}
use Rattle.def_framing.specs.Items.{node_items}
use Rattle.lf_model.specs.declared.document.Doc.TheVariants.{Bytes, Over}
use Rattle.lf_model.specs.declared.document.Limit.TheVariants.{Depth, DocumentItems, TreeItems}
use Rattle.lf_model.specs.JsonData.{JsonValue, null, array, fraction, text, object, items_of, members_of}
use Rattle.lf_model.specs.TreeData.{TreeNode}
use Rattle.def_selection.specs.Keywords.{selection_open}
use Rattle.def_documents.specs.CaseData.{no_context, no_terms, node_of, table_of}
use Rattle.def_framing.specs.Outcome.{matched, no_match, not_key, past}
use Rattle.def_documents.specs.Document.{document, gathered, limited, trees, most_items, most_bytes}

abbrev vocabulary : JsonValue
vocabulary = object (members_of ((codes "@vocab", text (codes "http://e/")) ∷ []))

abbrev leaf : TreeNode
leaf = node_of (codes "http://e/a") []

-- no tree: an empty map, with the context where it has something to say
pub empty_document : document no_terms no_context (no_match ∷ not_key ∷ []) ≡ Bytes (codes "{}")
unfolding selection_open most_items most_bytes node_items
empty_document = refl

pub context_document :
    document (table_of (Some (codes "http://e/")) []) vocabulary []
    ≡ Bytes (codes "{\"@context\":{\"@vocab\":\"http://e/\"}}")
unfolding selection_open most_items most_bytes node_items
context_document = refl

-- a context that is empty without its version isn't shown; one in a list stays as an empty map
pub version_alone :
    document no_terms (object (members_of ((codes "@version", fraction) ∷ []))) []
    ≡ Bytes (codes "{}")
unfolding selection_open most_items most_bytes node_items
version_alone = refl

pub version_in_list :
    document no_terms
    (array (items_of (object (members_of ((codes "@version", fraction) ∷ [])) ∷ null ∷ []))) []
    ≡ Bytes (codes "{\"@context\":[{},null]}")
unfolding selection_open most_items most_bytes node_items
version_in_list = refl

-- the first limit in order of the terms decides
pub first_limit :
    document no_terms no_context (matched leaf ∷ past Depth ∷ past TreeItems ∷ []) ≡ Over Depth
unfolding selection_open most_items most_bytes node_items
first_limit = refl

-- 262,144 items are within the limit, and one more isn't; the tree that passes it comes before a
-- later limit
pub last_item : gathered 262143 (matched leaf ∷ []) ≡ trees (leaf ∷ [])
unfolding most_items node_items
last_item = refl

pub one_item_more : gathered 262144 (matched leaf ∷ past Depth ∷ []) ≡ limited DocumentItems
unfolding most_items node_items
one_item_more = refl
