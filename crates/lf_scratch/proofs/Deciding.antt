-- Outcomes up to the first that decides a document.
use Rattle.std.proofs.Common.{◌≡◌, refl, sym, ap, ◌∙◌, ℕ, ◌+◌, ◌-◌, ◌<◌, ◌≤◌, nat_lt, cond, Bool, true, false, List, [], ◌∷◌, ◌++◌, take, drop, map, Option, Some, None, arith, lt-ltb, le-ltb}
use Rattle.std.proofs.lemmas.List.{map-append, take-append-drop}
use Rattle.lf_model.specs.declared.document.Limit.{Limit}
use Rattle.lf_model.specs.declared.document.Limit.TheVariants.{DocumentItems}
use Rattle.lf_model.specs.declared.document.Outcome as program
use Rattle.lf_model.specs.TreeData.{TreeNode}
use Rattle.def_framing.specs.Items.{node_items}
use Rattle.def_framing.specs.Outcome.{Outcome, not_key, no_match, matched, past}
use Rattle.def_framing.specs.OutcomeBridge.{outcome_data}
use Rattle.def_documents.specs.Document.{Gathered, trees, limited, gathered, most_items, with_tree}
use Rattle.lf_doc.specs.Room.{room_after, room_of}
use Rattle.lf_doc.proofs.Room.{left-is, none-is}

-- the room behind one outcome more, if there was any
abbrev pub room_then : Outcome → Option ℕ → Option ℕ
room_then one None = None
room_then one (Some room) = room_of one room

-- the room behind some outcomes, or none where one of them decides
abbrev pub room_behind : Option ℕ → List Outcome → Option ℕ
room_behind left [] = left
room_behind left (one ∷ rest) = room_behind (room_then one left) rest

behind-more : (left : Option ℕ) (outcomes : List Outcome) (one : Outcome) → room_behind left (outcomes ++ one ∷ []) ≡ room_then one (room_behind left outcomes)
behind-more left [] one = refl
behind-more left (first ∷ rest) one = behind-more (room_then first left) rest one

-- one outcome more was put behind
pub room_more : (made new : List program.Outcome) (x : program.Outcome) (room : ℕ) (next : Option ℕ) → new ≡ made ++ x ∷ []
    → room_behind (Some most_items) (map outcome_data made) ≡ Some room → next ≡ room_of (outcome_data x) room
    → room_behind (Some most_items) (map outcome_data new) ≡ next
room_more made new x room next joined before is =
    ap (λ ys. room_behind (Some most_items) (map outcome_data ys)) joined
    ∙ (ap (room_behind (Some most_items)) (map-append outcome_data made (x ∷ []))
    ∙ (behind-more (Some most_items) (map outcome_data made) (outcome_data x)
    ∙ (ap (room_then (outcome_data x)) before ∙ sym is)))

-- ---- where no room is left, a limit decides

IsLimited : Gathered → Type 0
IsLimited all = (limit : Limit) × all ≡ limited limit

decided_tree : (found : TreeNode) (rest : List Outcome) (items room : ℕ) → items + room ≡ most_items
    → ((more left : ℕ) → more + left ≡ most_items → room_behind (Some left) rest ≡ None → IsLimited (gathered more rest))
    → (next : Option ℕ) → room_after (node_items found) room ≡ next → room_behind next rest ≡ None → IsLimited (gathered items (matched found ∷ rest))
unfolding IsLimited
decided_tree found rest items room sum ih None is none =
    let less : room < node_items found = none-is (node_items found) room is in
    (DocumentItems, ap (λ t. cond t (limited DocumentItems) (with_tree found (gathered (items + node_items found) rest))) (lt-ltb most_items (items + node_items found) (omega arith)))
decided_tree found rest items room sum ih (Some left) is none =
    let parts = left-is (node_items found) room left is in
    let within : node_items found ≤ room = parts.0 in
    let same : left ≡ room - node_items found = parts.1 in
    let next = ih (items + node_items found) left (omega arith) none in (
      next.0,
      ap (λ t. cond t (limited DocumentItems) (with_tree found (gathered (items + node_items found) rest))) (le-ltb most_items (items + node_items found) (omega arith))
          ∙ ap (with_tree found) next.1,
    )

decided : (outcomes : List Outcome) (items room : ℕ) → items + room ≡ most_items → room_behind (Some room) outcomes ≡ None → IsLimited (gathered items outcomes)
unfolding IsLimited
decided [] items room sum none = absurd (cc)
decided (not_key ∷ rest) items room sum none = decided rest items room sum none
decided (no_match ∷ rest) items room sum none = decided rest items room sum none
decided (past limit ∷ rest) items room sum none = (limit, refl)
decided (matched found ∷ rest) items room sum none =
    decided_tree found rest items room sum (λ more left. decided rest more left) (room_after (node_items found) room) refl none

-- ---- what comes behind such outcomes changes nothing

without-tree : (found : TreeNode) (all : Gathered) (limit : Limit) → with_tree found all ≡ limited limit → all ≡ limited limit
without-tree found (trees others) limit e = absurd (cc)
without-tree found (limited other) limit e = e

stays_tree : (found : TreeNode) (some all : Gathered) (limit : Limit) → (some ≡ limited limit → all ≡ limited limit) → (over : Bool)
    → cond over (limited DocumentItems) (with_tree found some) ≡ limited limit → cond over (limited DocumentItems) (with_tree found all) ≡ limited limit
stays_tree found some all limit ih true e = e
stays_tree found some all limit ih false e = ap (with_tree found) (ih (without-tree found some limit e))

stays : (outcomes rest : List Outcome) (items : ℕ) (limit : Limit) → gathered items outcomes ≡ limited limit → gathered items (outcomes ++ rest) ≡ limited limit
stays [] rest items limit e = absurd (cc)
stays (not_key ∷ others) rest items limit e = stays others rest items limit e
stays (no_match ∷ others) rest items limit e = stays others rest items limit e
stays (past other ∷ others) rest items limit e = e
stays (matched found ∷ others) rest items limit e =
    stays_tree found (gathered (items + node_items found) others) (gathered (items + node_items found) (others ++ rest)) limit
    (stays others rest (items + node_items found) limit) (nat_lt most_items (items + node_items found)) e

-- the first outcomes of a list, the last of which decides, give what all of them give
pub first_decide : {X : Type 0} (f : X → Outcome) (xs : List X) (i : ℕ) (made : List Outcome) → made ≡ map f (take i xs)
    → room_behind (Some most_items) made ≡ None → gathered 0 made ≡ gathered 0 (map f xs)
unfolding IsLimited
first_decide f xs i made is none =
    let sum : 0 + most_items ≡ most_items = omega arith in
    let limit = decided made 0 most_items sum none in
    let split : made ++ map f (drop i xs) ≡ map f xs =
    ap (λ front. front ++ map f (drop i xs)) is ∙ (sym (map-append f (take i xs) (drop i xs)) ∙ ap (map f) (take-append-drop i xs)) in
    limit.1 ∙ sym (ap (gathered 0) (sym split) ∙ stays made (map f (drop i xs)) 0 limit.0 limit.1)
