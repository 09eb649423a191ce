-- The document of compacted trees, or the error of compaction.
use Rattle.std.proofs.Common.{◌≡◌, ℕ, List, Option, Some, Result, Ok, Err, IfOk, map, sym, ap, subst, ◌∙◌}
use Rattle.lf_base.specs.declared.memory.Memory.{Memory}
use Rattle.lf_model.specs.declared.document.Doc.{Doc}
use Rattle.lf_model.specs.declared.table.TermTable.{TermTable}
use Rattle.lf_model.specs.JsonData.{JsonValue}
use Rattle.lf_model.specs.TreeData.{TreeNode}
use Rattle.def_documents.specs.Document.{compact_all, document_json, printed_doc, pruned, within_bytes}
use Rattle.def_documents.specs.JsonPrint.{json_text}
use Rattle.def_documents.specs.Pruning.{label_count, prune_node}
use Rattle.lf_compact.specs.declared.error.CompactErr.{CompactErr}
use Rattle.lf_tidy.specs.declared.counts.Counts.{Counts}
use Rattle.lf_tidy.specs.Counts.{count_in}
use Rattle.lf_doc.specs.Maps.{CompactedAll}

-- what is compacted by the program's table and counts is so by the definition's
same-maps : (table inverse : TermTable) (ts : List TreeNode) (counts : Counts) → inverse ≡ table → ((label : List ℕ) → count_in counts label ≡ label_count ts label)
    → compact_all table (pruned ts) ≡ compact_all inverse (map (prune_node (count_in counts)) ts)
same-maps table inverse ts counts same labels = λ i. compact_all (sym same i) (map (prune_node (λ label. sym (labels label) i)) ts)

pub printed-some : (table inverse : TermTable) (context : JsonValue) (ts : List TreeNode) (counts : Counts) (maps : List JsonValue) (r : Result Doc Memory)
    → inverse ≡ table → ((label : List ℕ) → count_in counts label ≡ label_count ts label) → compact_all inverse (map (prune_node (count_in counts)) ts) ≡ Some maps
    → IfOk r (λ d. d ≡ within_bytes (json_text (document_json inverse context maps)))
    → IfOk r (λ d. d ≡ printed_doc table context (compact_all table (pruned ts)))
printed-some table inverse context ts counts maps r same labels made written =
    subst (λ w. IfOk r (λ d. d ≡ w))
    (ap (λ t. within_bytes (json_text (document_json t context maps))) same
    ∙ ap (printed_doc table context) (sym (same-maps table inverse ts counts same labels ∙ made)))
    written

pub printed-none : (table inverse : TermTable) (context : JsonValue) (ts : List TreeNode) (counts : Counts) (r : Result Doc Memory) (error : CompactErr)
    → inverse ≡ table → ((label : List ℕ) → count_in counts label ≡ label_count ts label)
    → CompactedAll (Err error) (compact_all inverse (map (prune_node (count_in counts)) ts))
    → IfOk r (λ d. (t : TermTable) (c : JsonValue) (answer : Option (List JsonValue)) → CompactedAll (Err error) answer → d ≡ printed_doc t c answer)
    → IfOk r (λ d. d ≡ printed_doc table context (compact_all table (pruned ts)))
printed-none table inverse context ts counts (Err memory) error same labels failed refused = tt
printed-none table inverse context ts counts (Ok d) error same labels failed refused =
    refused table context (compact_all inverse (map (prune_node (count_in counts)) ts)) failed
    ∙ ap (printed_doc table context) (sym (same-maps table inverse ts counts same labels))
