-- Laws of pruning and of documents.
use Rattle.std.specs.Prelude.{◌≡◌, true, false, ◌↔◌, List, ◌∷◌, ◌++◌, ℕ, ◌+◌, ◌<◌, ◌≤◌, ◌≢◌, length, map, sum_by, Contains}
use Rattle.std.specs.List.{list_any}
use Rattle.std.specs.List.Sorted.{IsStrictlySortedBy}
use Rattle.std.specs.Ordering.{nat_cmp}
use Rattle.std.specs.Cmp.Lexicographic.{slice_cmp}
use Rattle.lf_model.specs.declared.table.TermTable.{TermTable}
use Rattle.lf_model.specs.declared.error.LdError.{LdError}
use Rattle.lf_model.specs.declared.error.LdError.TheVariants.{IriConfusedWithPrefix}
use Rattle.lf_model.specs.declared.document.Limit.{Limit}
use Rattle.lf_model.specs.declared.document.Limit.TheVariants.{DocumentItems}
use Rattle.lf_model.specs.declared.document.Doc.TheVariants as doc
use Rattle.lf_model.specs.JsonData.{JsonValue}
use Rattle.lf_model.specs.TreeData.{TreeNode}
use Rattle.def_selection.specs.Iris.{is_confused}
use Rattle.def_documents.specs.Pruning.{count_node, label_count, prune_node}
use Rattle.def_documents.specs.Ids.{node_has_id}
use Rattle.def_documents.specs.Written.{node_has}
use Rattle.def_framing.specs.Items.{node_items}
use Rattle.def_documents.specs.Grouping.{keys_of}
use Rattle.def_framing.specs.Outcome.{Outcome, matched, past}
use Rattle.def_documents.specs.Document.{trees, limited, gathered, document, most_items, most_bytes}

-- the count of a label over two lists of trees is the sum of both counts
abbrev pub CountsAddUp : Type 0
CountsAddUp =
    (some others : List TreeNode) (label : List ℕ)
    → label_count (some ++ others) label ≡ label_count some label + label_count others label

-- a label that isn't counted once stands in the pruned tree as often as before
abbrev pub PruningKeepsOthers : Type 0
PruningKeepsOthers =
    (counts : List ℕ → ℕ) (node : TreeNode) (label : List ℕ) → counts label ≢ 1
    → count_node label (prune_node counts node) ≡ count_node label node

-- a label that is counted once is the id of no node of the pruned tree
abbrev pub PruningRemovesOnce : Type 0
PruningRemovesOnce =
    (counts : List ℕ → ℕ) (node : TreeNode) (label : List ℕ) → counts label ≡ 1
    → node_has_id label (prune_node counts node) ≡ false

-- where no label is counted once, pruning changes nothing
abbrev pub PruningMayBeIdle : Type 0
PruningMayBeIdle =
    (counts : List ℕ → ℕ) (node : TreeNode) → ((label : List ℕ) → counts label ≢ 1) →
    prune_node counts node ≡ node

-- a pruned tree has as many items
abbrev pub PruningKeepsItems : Type 0
PruningKeepsItems =
    (counts : List ℕ → ℕ) (node : TreeNode) → node_items (prune_node counts node) ≡ node_items node

-- a document is refused only with this error, and only where its trees are written with an IRI that
-- is confused
abbrev pub RefusedAsConfused : Type 0
RefusedAsConfused =
    (table : TermTable) (context : JsonValue) (outcomes : List Outcome) (error : LdError)
    → document table context outcomes ≡ doc.Refused error
    → (error ≡ IriConfusedWithPrefix)
    × ((all : List TreeNode) × (gathered 0 outcomes ≡ trees all)
    × (list_any (node_has (is_confused table)) all ≡ true))

-- a document's text is within the limit
abbrev pub TextWithinLimit : Type 0
TextWithinLimit =
    (table : TermTable) (context : JsonValue) (outcomes : List Outcome) (text : List ℕ)
    → document table context outcomes ≡ doc.Bytes text → length text ≤ most_bytes

-- the trees of a document have no more items than the limit
abbrev pub ItemsWithinLimit : Type 0
ItemsWithinLimit =
    (outcomes : List Outcome) (all : List TreeNode) → gathered 0 outcomes ≡ trees all →
    sum_by node_items all ≤ most_items

-- an outcome that is a limit decides, whatever follows, where the outcomes before it have no limit
abbrev pub FirstLimitDecides : Type 0
FirstLimitDecides =
    (before after : List Outcome) (all : List TreeNode) (limit : Limit) →
    gathered 0 before ≡ trees all
    → gathered 0 (before ++ past limit ∷ after) ≡ limited limit

-- and a tree that takes the sum of items above the limit decides likewise
abbrev pub FirstExcessDecides : Type 0
FirstExcessDecides =
    (before after : List Outcome) (all : List TreeNode) (found : TreeNode) →
    gathered 0 before ≡ trees all
    → most_items < sum_by node_items all + node_items found
    → gathered 0 (before ++ matched found ∷ after) ≡ limited DocumentItems

-- the keys of a map stand in byte order, each once
abbrev pub KeysAscend : Type 0
KeysAscend =
    (entries : List (List ℕ × JsonValue)) → IsStrictlySortedBy (slice_cmp nat_cmp) (keys_of entries)

-- and they are those of the entries
abbrev pub KeysAreOfEntries : Type 0
KeysAreOfEntries =
    (entries : List (List ℕ × JsonValue)) (key : List ℕ)
    → Contains (keys_of entries) key ↔ Contains (map (λ entry. entry.0) entries) key
