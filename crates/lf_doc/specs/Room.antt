-- Room for items.
use Rattle.std.specs.Prelude.{ℕ, ◌-◌, Option, Some, None, nat_lt, if◌then◌else◌}
use Rattle.def_framing.specs.Items.{node_items}
use Rattle.def_framing.specs.Outcome.{Outcome, not_key, no_match, matched, past}

-- the room that items leave, or none where there are more of them
abbrev pub room_after : ℕ → ℕ → Option ℕ
room_after items room = if nat_lt room items then None else Some (room - items)

-- the room that an outcome leaves, or none where it decides the document: a limit, or a tree with
-- more items than there is room
abbrev pub room_of : Outcome → ℕ → Option ℕ
room_of not_key room = Some room
room_of no_match room = Some room
room_of (past limit) room = None
room_of (matched found) room = room_after (node_items found) room
