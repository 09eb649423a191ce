-- The document of a frame and of the outcomes of a dataset's terms (JSON-LD 1.1 Framing, section
-- 4.1: frame, from step 15 on).
use Rattle.std.specs.Prelude.{List, [], ◌∷◌, ◌++◌, ℕ, ◌+◌, nat_lt, Option, Some, None, if◌then◌else◌, length, map}
use Rattle.lf_rdf.specs.declared.term.Term.{Term}
use Rattle.lf_model.specs.declared.table.TermTable.{TermTable}
use Rattle.lf_model.specs.declared.error.LdError.TheVariants.{IriConfusedWithPrefix}
use Rattle.lf_model.specs.declared.document.Limit.{Limit}
use Rattle.lf_model.specs.declared.document.Limit.TheVariants.{DocumentItems, DocumentBytes}
use Rattle.lf_model.specs.declared.document.Doc.{Doc}
use Rattle.lf_model.specs.declared.document.Doc.TheVariants as doc
use Rattle.lf_model.specs.JsonData.{JsonValue, array, object, members_list, items_of}
use Rattle.lf_model.specs.TreeData.{TreeNode}
use Rattle.def_framing.specs.Outcome.{Outcome, not_key, no_match, matched, past}
use Rattle.def_selection.specs.Keywords.{at_graph}
use Rattle.def_selection.specs.Iris.{short_keyword}
use Rattle.def_documents.specs.Trying.{◌>>=◌}
use Rattle.def_documents.specs.Grouping.{object_of}
use Rattle.def_documents.specs.Nodes.{compact}
use Rattle.def_documents.specs.Pruning.{label_count, prune_node}
use Rattle.def_framing.specs.Items.{node_items}
use Rattle.def_documents.specs.PrintedContext.{context_entry}
use Rattle.def_documents.specs.JsonPrint.{json_text}

-- the trees of all outcomes, or the first limit
pub data Gathered : Type 0 where
  trees : List TreeNode → Gathered
  limited : Limit → Gathered

-- the most items and bytes of a document
unfoldable pub most_items : ℕ
most_items = 262144

unfoldable pub most_bytes : ℕ
most_bytes = 33554432

abbrev pub with_tree : TreeNode → Gathered → Gathered
with_tree found (trees others) = trees (found ∷ others)
with_tree found (limited limit) = limited limit

-- outcome by outcome: a limit, or the tree that takes the sum of items above the most, is the first
-- to decide
abbrev pub gathered : ℕ → List Outcome → Gathered
gathered items [] = trees []
gathered items (not_key ∷ rest) = gathered items rest
gathered items (no_match ∷ rest) = gathered items rest
gathered items (past limit ∷ rest) = limited limit
gathered items (matched found ∷ rest) =
    if nat_lt most_items (items + node_items found) then limited DocumentItems
    else with_tree found (gathered (items + node_items found) rest)

-- the trees without the blank ids that are counted once over all of them
abbrev pub pruned : List TreeNode → List TreeNode
pruned all = map (prune_node (label_count all)) all

-- the compacted trees
abbrev pub compact_all : TermTable → List TreeNode → Option (List JsonValue)
compact_all table [] = Some []
compact_all table (first ∷ rest) = do
  json ← compact table first
  others ← compact_all table rest
  Some (json ∷ others)

-- the entries of a node's map
abbrev pub entries_in : JsonValue → List (List ℕ × JsonValue)
entries_in (object members) = members_list members
entries_in _ = []

-- one map stands by itself; several stand under the key of `@graph`
abbrev pub top_entries : TermTable → List JsonValue → List (List ℕ × JsonValue)
top_entries table [] = []
top_entries table (map ∷ []) = entries_in map
top_entries table maps = (short_keyword table at_graph, array (items_of maps)) ∷ []

-- the document's map, with the context first
abbrev pub document_json : TermTable → JsonValue → List JsonValue → JsonValue
document_json table context maps = object_of (context_entry context ++ top_entries table maps)

-- the printed text, unless it is too long
abbrev pub within_bytes : List ℕ → Doc
within_bytes printed =
    if nat_lt most_bytes (length printed) then doc.Over DocumentBytes else doc.Bytes printed

-- the document of compacted trees; none is the error of compaction
abbrev pub printed_doc : TermTable → JsonValue → Option (List JsonValue) → Doc
printed_doc table context None = doc.Refused IriConfusedWithPrefix
printed_doc table context (Some maps) = within_bytes (json_text (document_json table context maps))

abbrev pub gathered_doc : TermTable → JsonValue → Gathered → Doc
gathered_doc table context (limited limit) = doc.Over limit
gathered_doc table context (trees all) = printed_doc table context (compact_all table (pruned all))

-- the document: a limit of framing, else the error of compaction, else the limit of its bytes, else
-- its text
abbrev pub document : TermTable → JsonValue → List Outcome → Doc
document table context outcomes = gathered_doc table context (gathered 0 outcomes)

-- the document computed from scratch: that of the outcomes of a dataset's terms, in order
abbrev pub scratch : TermTable → JsonValue → (Term → Outcome) → List Term → Doc
scratch table context outcome terms = document table context (map outcome terms)
