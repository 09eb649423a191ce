-- Room that items take, part by part.
use Rattle.std.proofs.Common.{◌≡◌, ℕ, ◌+◌, ◌-◌, ◌<◌, ◌≤◌, Bool, true, false, nat_lt, cond, Option, Some, None, unwrap_or, refl, sym, ap, ◌∙◌, arith, ltb-true, ltb-false, lt-ltb, le-ltb}
use Rattle.lf_doc.specs.Room.{room_after}

pub fits : (items room : ℕ) → items ≤ room → room_after items room ≡ Some (room - items)
fits items room le = ap (λ t. cond t None (Some (room - items))) (le-ltb room items le)

pub lacks : (items room : ℕ) → room < items → room_after items room ≡ None
lacks items room lt = ap (λ t. cond t None (Some (room - items))) (lt-ltb room items lt)

-- what is left is told by both
pub left-is : (items room left : ℕ) → room_after items room ≡ Some left → (items ≤ room) × (left ≡ room - items)
left-is items room left h = go (nat_lt room items) refl h
  where
    go : (t : Bool) → nat_lt room items ≡ t → cond t None (Some (room - items)) ≡ Some left → (items ≤ room) × (left ≡ room - items)
    go true e k = cc
    go false e k = (ltb-false room items e, sym (ap (λ o. unwrap_or o 0) k))

pub none-is : (items room : ℕ) → room_after items room ≡ None → room < items
none-is items room h = go (nat_lt room items) refl h
  where
    go : (t : Bool) → nat_lt room items ≡ t → cond t None (Some (room - items)) ≡ None → room < items
    go true e k = ltb-true room items e
    go false e k = cc

then-room : (one two room : ℕ) → one ≤ room → room_after (one + two) room ≡ room_after two (room - one)
then-room one two room le = go (nat_lt (room - one) two) refl
  where
    go : (t : Bool) → nat_lt (room - one) two ≡ t → room_after (one + two) room ≡ cond t None (Some ((room - one) - two))
    go true e =
        let less : room - one < two = ltb-true (room - one) two e in
        lacks (one + two) room (omega arith)
    go false e =
        let more : two ≤ room - one = ltb-false (room - one) two e in
        let same : room - (one + two) ≡ (room - one) - two = omega arith in
        fits (one + two) room (omega arith) ∙ ap Some same

-- the first part takes its room, and the second the room that is left
pub some-first : (one two room left : ℕ) → room_after one room ≡ Some left → room_after (one + two) room ≡ room_after two left
some-first one two room left h =
    let parts = left-is one room left h in
    then-room one two room parts.0 ∙ ap (room_after two) (sym parts.1)

pub none-first : (one two room : ℕ) → room_after one room ≡ None → room_after (one + two) room ≡ None
none-first one two room h =
    let less : room < one = none-is one room h in
    lacks (one + two) room (omega arith)

-- ---- parts that are counted one after another

pub room-next : (total one rest room left : ℕ) (whole : Option ℕ) → total ≡ one + rest → Some left ≡ room_after one room → room_after total room ≡ whole
    → room_after rest left ≡ whole
room-next total one rest room left whole split is told =
    sym (some-first one rest room left (sym is)) ∙ ap (λ n. room_after n room) (sym split) ∙ told

pub room-none : (total one rest room : ℕ) (whole : Option ℕ) → total ≡ one + rest → None ≡ room_after one room → room_after total room ≡ whole → None ≡ whole
room-none total one rest room whole split is told =
    sym (none-first one rest room (sym is)) ∙ ap (λ n. room_after n room) (sym split) ∙ told

pub room-end : (total room : ℕ) (whole : Option ℕ) → total ≡ 0 → room_after total room ≡ whole → Some room ≡ whole
room-end total room whole none told =
    let same : room - 0 ≡ room = omega arith in
    ap Some (sym same) ∙ sym (fits 0 room (omega arith)) ∙ ap (λ n. room_after n room) (sym none) ∙ told
