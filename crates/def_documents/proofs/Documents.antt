-- What documents and limits are.
use Rattle.std.proofs.Common.{◌≡◌, ℕ, ◌+◌, ◌<◌, ◌≤◌, Bool, true, false, List, [], ◌∷◌, ◌++◌, Option, Some, None, cond, refl, sym, ap, subst, arith, is_some, length, nat_lt, ◌∙◌}
use Rattle.std.specs.List.{fold, list_any, sum_by}
use Rattle.std.proofs.lemmas.Bool.{both_ways, lt-ltb, ltb-false}
use Rattle.lf_model.specs.declared.table.TermTable.{TermTable}
use Rattle.lf_model.specs.declared.error.LdError.{LdError}
use Rattle.lf_model.specs.declared.error.LdError.TheVariants.{IriConfusedWithPrefix}
use Rattle.lf_model.specs.declared.document.Limit.{Limit}
use Rattle.lf_model.specs.declared.document.Limit.TheVariants.{DocumentItems, DocumentBytes}
use Rattle.lf_model.specs.declared.document.Doc.TheVariants as doc
use Rattle.lf_model.specs.JsonData.{JsonValue}
use Rattle.lf_model.specs.TreeData.{TreeNode}
use Rattle.def_selection.specs.Iris.{is_confused}
use Rattle.def_framing.specs.Items.{node_items}
use Rattle.def_documents.specs.JsonPrint.{json_text}
use Rattle.def_documents.specs.Pruning.{label_count}
use Rattle.def_documents.specs.Written.{node_has}
use Rattle.def_framing.specs.Outcome.{Outcome, not_key, no_match, matched, past}
use Rattle.def_documents.specs.Document.{Gathered, trees, limited, with_tree, gathered, gathered_doc, compact_all, document, document_json, printed_doc, pruned, within_bytes, most_items, most_bytes}
use Rattle.def_documents.proofs.Written.{all-given, pruned-alike}

-- a text within the limit isn't refused
not_refused : (printed : List ℕ) (error : LdError) → within_bytes printed ≡ doc.Refused error → ⊥
not_refused printed error e = go (nat_lt most_bytes (length printed)) e
  where
    go : (b : Bool) → cond b (doc.Over DocumentBytes) (doc.Bytes printed) ≡ doc.Refused error → ⊥
    go true e' = cc
    go false e' = cc

-- without an IRI that is confused there are compacted trees
confused-cause : (table : TermTable) (all : List TreeNode) → compact_all table (pruned all) ≡ None → list_any (node_has (is_confused table)) all ≡ true
confused-cause table all none = go (list_any (node_has (is_confused table)) all) refl
  where
    go : (b : Bool) → list_any (node_has (is_confused table)) all ≡ b → b ≡ true
    go true clear = refl
    go false clear =
        let given = all-given table (pruned all) (pruned-alike (label_count all) (is_confused table) all ∙ clear) in
        absurd (both_ways (is_some (compact_all table (pruned all))) (ap is_some none) given)

printed-confused : (table : TermTable) (context : JsonValue) (maps : Option (List JsonValue)) (error : LdError) → printed_doc table context maps ≡ doc.Refused error → (error ≡ IriConfusedWithPrefix) × (maps ≡ None)
printed-confused table context None error e = (cc, refl)
printed-confused table context (Some maps) error e = absurd (not_refused (json_text (document_json table context maps)) error e)

pub refused-confused : (table : TermTable) (context : JsonValue) (outcomes : List Outcome) (error : LdError) → document table context outcomes ≡ doc.Refused error
    → (error ≡ IriConfusedWithPrefix) × ((all : List TreeNode) × (gathered 0 outcomes ≡ trees all) × (list_any (node_has (is_confused table)) all ≡ true))
refused-confused table context outcomes error e = go (gathered 0 outcomes) refl e
  where
    go : (found : Gathered) → gathered 0 outcomes ≡ found → gathered_doc table context found ≡ doc.Refused error
        → (error ≡ IriConfusedWithPrefix) × ((all : List TreeNode) × (gathered 0 outcomes ≡ trees all) × (list_any (node_has (is_confused table)) all ≡ true))
    go (limited limit) at e' = cc
    go (trees all) at e' =
        let (same, none) = printed-confused table context (compact_all table (pruned all)) error e' in
        (same, (all, at, confused-cause table all none))

short_enough : (printed text : List ℕ) → within_bytes printed ≡ doc.Bytes text → length text ≤ most_bytes
short_enough printed text e = go (nat_lt most_bytes (length printed)) refl e
  where
    go : (b : Bool) → nat_lt most_bytes (length printed) ≡ b → cond b (doc.Over DocumentBytes) (doc.Bytes printed) ≡ doc.Bytes text → length text ≤ most_bytes
    go true at e' = cc
    go false at e' = let same : printed ≡ text = cc in subst (λ t. length t ≤ most_bytes) same (ltb-false most_bytes (length printed) at)

printed-short : (table : TermTable) (context : JsonValue) (maps : Option (List JsonValue)) (text : List ℕ) → printed_doc table context maps ≡ doc.Bytes text → length text ≤ most_bytes
printed-short table context None text e = cc
printed-short table context (Some maps) text e = short_enough (json_text (document_json table context maps)) text e

pub text-within : (table : TermTable) (context : JsonValue) (outcomes : List Outcome) (text : List ℕ) → document table context outcomes ≡ doc.Bytes text → length text ≤ most_bytes
text-within table context outcomes text e = go (gathered 0 outcomes) e
  where
    go : (all : Gathered) → gathered_doc table context all ≡ doc.Bytes text → length text ≤ most_bytes
    go (limited limit) e' = cc
    go (trees all) e' = printed-short table context (compact_all table (pruned all)) text e'

-- the sum from a number on
fold-from : (n : ℕ) (all : List TreeNode) → fold (λ a t. a + node_items t) n all ≡ n + sum_by node_items all
fold-from n [] = omega arith
fold-from n (first ∷ rest) =
    let one = fold-from (n + node_items first) rest in
    let other = fold-from (0 + node_items first) rest in
    omega arith

-- what the trees of some outcomes add to the items before
pub items-within : (items : ℕ) (outcomes : List Outcome) (all : List TreeNode) → items ≤ most_items → gathered items outcomes ≡ trees all → items + sum_by node_items all ≤ most_items
items-within items [] all below e = let same : all ≡ [] = cc in subst (λ ts. items + sum_by node_items ts ≤ most_items) (sym same) (omega arith)
items-within items (not_key ∷ rest) all below e = items-within items rest all below e
items-within items (no_match ∷ rest) all below e = items-within items rest all below e
items-within items (past limit ∷ rest) all below e = cc
items-within items (matched found ∷ rest) all below e = go (nat_lt most_items (items + node_items found)) refl e (λ within others at. items-within (items + node_items found) rest others within at)
  where
    more : (g : Gathered) → gathered (items + node_items found) rest ≡ g → with_tree found g ≡ trees all
        → ((others : List TreeNode) → gathered (items + node_items found) rest ≡ trees others → items + node_items found + sum_by node_items others ≤ most_items)
        → items + sum_by node_items all ≤ most_items
    more (limited limit) at e' ih = cc
    more (trees others) at e' ih =
        let same : found ∷ others ≡ all = cc in
        let sums = fold-from (0 + node_items found) others in
        let held = ih others at in
        subst (λ ts. items + sum_by node_items ts ≤ most_items) same (omega arith)

    go : (b : Bool) → nat_lt most_items (items + node_items found) ≡ b
        → cond b (limited DocumentItems) (with_tree found (gathered (items + node_items found) rest)) ≡ trees all
        → (items + node_items found ≤ most_items → (others : List TreeNode) → gathered (items + node_items found) rest ≡ trees others → items + node_items found + sum_by node_items others ≤ most_items)
        → items + sum_by node_items all ≤ most_items
    go true at e' ih = cc
    go false at e' ih = more (gathered (items + node_items found) rest) refl e' (ih (ltb-false most_items (items + node_items found) at))

-- a limit after outcomes that have none
pub limit-decides : (items : ℕ) (before after : List Outcome) (all : List TreeNode) (limit : Limit) → gathered items before ≡ trees all → gathered items (before ++ past limit ∷ after) ≡ limited limit
limit-decides items [] after all limit e = refl
limit-decides items (not_key ∷ rest) after all limit e = limit-decides items rest after all limit e
limit-decides items (no_match ∷ rest) after all limit e = limit-decides items rest after all limit e
limit-decides items (past other ∷ rest) after all limit e = cc
limit-decides items (matched found ∷ rest) after all limit e = go (nat_lt most_items (items + node_items found)) e (λ others at. limit-decides (items + node_items found) rest after others limit at)
  where
    more : (g : Gathered) → gathered (items + node_items found) rest ≡ g → with_tree found g ≡ trees all
        → ((others : List TreeNode) → gathered (items + node_items found) rest ≡ trees others → gathered (items + node_items found) (rest ++ past limit ∷ after) ≡ limited limit)
        → with_tree found (gathered (items + node_items found) (rest ++ past limit ∷ after)) ≡ limited limit
    more (limited other) at e' ih = cc
    more (trees others) at e' ih = ap (with_tree found) (ih others at)

    go : (b : Bool) → cond b (limited DocumentItems) (with_tree found (gathered (items + node_items found) rest)) ≡ trees all
        → ((others : List TreeNode) → gathered (items + node_items found) rest ≡ trees others → gathered (items + node_items found) (rest ++ past limit ∷ after) ≡ limited limit)
        → cond b (limited DocumentItems) (with_tree found (gathered (items + node_items found) (rest ++ past limit ∷ after))) ≡ limited limit
    go true e' ih = cc
    go false e' ih = more (gathered (items + node_items found) rest) refl e' ih

-- a tree that takes the sum above the limit, after outcomes that have none
pub excess-decides : (items : ℕ) (before after : List Outcome) (all : List TreeNode) (last : TreeNode) → gathered items before ≡ trees all
    → most_items < items + sum_by node_items all + node_items last → gathered items (before ++ matched last ∷ after) ≡ limited DocumentItems
excess-decides items [] after all last e above =
    let none : all ≡ [] = cc in
    let alone = subst (λ ts. most_items < items + sum_by node_items ts + node_items last) none above in
    let over : most_items < items + node_items last = omega arith in
    ap (λ b. cond b (limited DocumentItems) (with_tree last (gathered (items + node_items last) after))) (lt-ltb most_items (items + node_items last) over)
excess-decides items (not_key ∷ rest) after all last e above = excess-decides items rest after all last e above
excess-decides items (no_match ∷ rest) after all last e above = excess-decides items rest after all last e above
excess-decides items (past other ∷ rest) after all last e above = cc
excess-decides items (matched found ∷ rest) after all last e above =
    go (nat_lt most_items (items + node_items found)) e (λ others at more. excess-decides (items + node_items found) rest after others last at more)
  where
    step : (g : Gathered) → gathered (items + node_items found) rest ≡ g → with_tree found g ≡ trees all
        → ((others : List TreeNode) → gathered (items + node_items found) rest ≡ trees others → most_items < items + node_items found + sum_by node_items others + node_items last
        → gathered (items + node_items found) (rest ++ matched last ∷ after) ≡ limited DocumentItems)
        → with_tree found (gathered (items + node_items found) (rest ++ matched last ∷ after)) ≡ limited DocumentItems
    step (limited other) at e' ih = cc
    step (trees others) at e' ih =
        let same : all ≡ found ∷ others = cc in
        let over : most_items < items + sum_by node_items (found ∷ others) + node_items last = subst (λ ts. most_items < items + sum_by node_items ts + node_items last) same above in
        let sums = fold-from (0 + node_items found) others in
        ap (with_tree found) (ih others at (omega arith))

    go : (b : Bool) → cond b (limited DocumentItems) (with_tree found (gathered (items + node_items found) rest)) ≡ trees all
        → ((others : List TreeNode) → gathered (items + node_items found) rest ≡ trees others → most_items < items + node_items found + sum_by node_items others + node_items last
        → gathered (items + node_items found) (rest ++ matched last ∷ after) ≡ limited DocumentItems)
        → cond b (limited DocumentItems) (with_tree found (gathered (items + node_items found) (rest ++ matched last ∷ after))) ≡ limited DocumentItems
    go true e' ih = cc
    go false e' ih = step (gathered (items + node_items found) rest) refl e' ih

pub first-excess : (before after : List Outcome) (all : List TreeNode) (last : TreeNode) → gathered 0 before ≡ trees all
    → most_items < sum_by node_items all + node_items last → gathered 0 (before ++ matched last ∷ after) ≡ limited DocumentItems
first-excess before after all last e above = excess-decides 0 before after all last e (omega arith)

pub items-limit : (outcomes : List Outcome) (all : List TreeNode) → gathered 0 outcomes ≡ trees all → sum_by node_items all ≤ most_items
items-limit outcomes all e = let h = items-within 0 outcomes all (omega arith) e in omega arith
