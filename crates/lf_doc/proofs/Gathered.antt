-- Outcomes gathered one by one within a room.
use Rattle.std.proofs.Common.{◌≡◌, ℕ, ◌+◌, ◌-◌, ◌<◌, ◌≤◌, false, nat_lt, cond, List, [], ◌∷◌, Option, Some, None, length, drop, get_or, map, refl, sym, ap, subst, ◌∙◌, arith, lt-ltb, le-ltb}
use Rattle.lf_model.specs.declared.document.Limit.{Limit}
use Rattle.lf_model.specs.declared.document.Outcome as program
use Rattle.lf_model.specs.declared.document.Limit.TheVariants.{DocumentItems}
use Rattle.lf_model.specs.TreeData.{TreeNode}
use Rattle.def_framing.specs.Items.{node_items}
use Rattle.def_framing.specs.Outcome.{Outcome, matched, past}
use Rattle.def_framing.specs.OutcomeBridge.{outcome_data}
use Rattle.def_documents.specs.Document.{limited, gathered, most_items, with_tree}
use Rattle.lf_doc.specs.Gathering.{gathered_by, trees_of}
use Rattle.lf_doc.specs.Room.{room_after}
use Rattle.lf_doc.proofs.Rests.{rest_next, rest_none}
use Rattle.lf_doc.proofs.Room.{left-is, none-is}

-- what is found for the rest within the room is found for the whole
pub record Tells (whole rest : List Outcome) (room : ℕ) : Type 0 where
  pub fits : room ≤ most_items
  pub tells : (found : Option Limit) → gathered (most_items - room) rest ≡ gathered_by found (trees_of rest) → gathered 0 whole ≡ gathered_by found (trees_of whole)

pub tells-start : (whole : List Outcome) (room : ℕ) → room ≡ most_items → Tells whole whole room
tells-start whole room is =
    let none : most_items - room ≡ 0 = omega (arith, is) in
    record { fits = omega (arith, is); tells = λ found told. ap (λ n. gathered n whole) (sym none) ∙ told }

with-tree-by : (made : TreeNode) (found : Option Limit) (others : List TreeNode) → with_tree made (gathered_by found others) ≡ gathered_by found (made ∷ others)
with-tree-by made None others = refl
with-tree-by made (Some limit) others = refl

pub tells-tree : (whole rest : List Outcome) (made : TreeNode) (room left : ℕ) → Tells whole (matched made ∷ rest) room → room_after (node_items made) room ≡ Some left → Tells whole rest left
tells-tree whole rest made room left h k =
    let parts = left-is (node_items made) room left k in
    let most : room ≤ most_items = h.fits in
    let taken : node_items made ≤ room = parts.0 in
    let is : left ≡ room - node_items made = parts.1 in
    let sum : (most_items - room) + node_items made ≡ most_items - left = omega arith in
    let fits : nat_lt most_items ((most_items - room) + node_items made) ≡ false = le-ltb most_items ((most_items - room) + node_items made) (omega arith) in
    record {
      fits = omega arith;
      tells = λ found told.
          h.tells found
          (ap (λ t. cond t (limited DocumentItems) (with_tree made (gathered ((most_items - room) + node_items made) rest))) fits
          ∙ ap (λ n. with_tree made (gathered n rest)) sum
          ∙ ap (with_tree made) told
          ∙ with-tree-by made found (trees_of rest));
    }

pub excess : (whole rest : List Outcome) (made : TreeNode) (room : ℕ) → Tells whole (matched made ∷ rest) room → room_after (node_items made) room ≡ None → gathered 0 whole ≡ gathered_by (Some DocumentItems) (trees_of whole)
excess whole rest made room h k =
    let less : room < node_items made = none-is (node_items made) room k in
    let most : room ≤ most_items = h.fits in
    h.tells (Some DocumentItems)
    (ap (λ t. cond t (limited DocumentItems) (with_tree made (gathered ((most_items - room) + node_items made) rest))) (lt-ltb most_items ((most_items - room) + node_items made) (omega arith)))

pub limit-decides : (whole rest : List Outcome) (limit : Limit) (room : ℕ) → Tells whole (past limit ∷ rest) room → gathered 0 whole ≡ gathered_by (Some limit) (trees_of whole)
limit-decides whole rest limit room h = h.tells (Some limit) refl

pub none-left : (whole : List Outcome) (room : ℕ) → Tells whole [] room → gathered 0 whole ≡ gathered_by None (trees_of whole)
none-left whole room h = h.tells None refl

pub skipped : (whole rest : List Outcome) (one : Outcome) (room : ℕ) → ((items : ℕ) → gathered items (one ∷ rest) ≡ gathered items rest) → trees_of (one ∷ rest) ≡ trees_of rest
    → Tells whole (one ∷ rest) room → Tells whole rest room
skipped whole rest one room same alike h =
    record {
      fits = h.fits;
      tells = λ found told. h.tells found (same (most_items - room) ∙ told ∙ ap (gathered_by found) (sym alike));
    }

-- the outcome at a place is the first of the rest
pub at-place : (xs : List program.Outcome) (i : ℕ) (x : program.Outcome) (whole : List Outcome) (one : Outcome) (room : ℕ) → i < length xs → x ≡ get_or xs i x → outcome_data x ≡ one
    → Tells whole (map outcome_data (drop i xs)) room → Tells whole (one ∷ map outcome_data (drop (i + 1) xs)) room
at-place xs i x whole one room within is same h =
    subst (λ rest. Tells whole rest room) (rest_next outcome_data xs i x within is ∙ ap (λ o. o ∷ map outcome_data (drop (i + 1) xs)) same) h

pub at-end : (xs : List program.Outcome) (i : ℕ) (whole : List Outcome) (room : ℕ) → length xs ≤ i → Tells whole (map outcome_data (drop i xs)) room
    → gathered 0 whole ≡ gathered_by None (trees_of whole)
at-end xs i whole room done h = none-left whole room (subst (λ rest. Tells whole rest room) (rest_none outcome_data xs i done) h)
