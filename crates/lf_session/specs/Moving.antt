-- What requests do to boards.
use Rattle.std.specs.Prelude.{◌≡◌, ◌≤◌, List, ◌++◌, ℕ, length, Bool, true, false, ◌&&◌, not, if◌then◌else◌, Option, Some, None, Result}
use Rattle.lf_base.specs.declared.memory.Memory.{Memory}
use Rattle.lf_rdf.specs.Equality.{text_eq}
use Rattle.def_histories.specs.declared.operation.Operation.{Operation}
use Rattle.def_turns.specs.declared.turned.Turned.{Turned}
use Rattle.lf_pool.specs.OneTurn.{IsTurn}
use Rattle.lf_session.specs.declared.request.Asked.{Asked}
use Rattle.lf_session.specs.declared.request.Asked.TheVariants as asked
use Rattle.lf_session.specs.Boards.{Boards}
use Rattle.lf_session.specs.Bodies.{idle_body}
use Rattle.lf_session.specs.Replies.{Reply, turn_reply}

-- A turn is one that may come of the histories before and after it and of the boards, and its reply
-- tells what came of it. Any other request takes no board.
abbrev pub Moves :
    Bool → Boards → Boards → ℕ → Asked → List Operation → List Operation → Reply → Type 0
Moves alone boards boards_after seat asked.Turn before after reply =
    (result : Result Turned Memory)
    × IsTurn alone seat before after boards.away boards_after.away boards.taken boards_after.taken
    result
    × (reply ≡ turn_reply result)
Moves alone boards boards_after seat (asked.Refused why) before after reply =
    boards_after.taken ≡ boards.taken
Moves alone boards boards_after seat asked.Put before after reply =
    boards_after.taken ≡ boards.taken
Moves alone boards boards_after seat asked.Delete before after reply =
    boards_after.taken ≡ boards.taken
Moves alone boards boards_after seat asked.Get before after reply =
    boards_after.taken ≡ boards.taken
Moves alone boards boards_after seat asked.GetNow before after reply =
    boards_after.taken ≡ boards.taken
Moves alone boards boards_after seat asked.Commit before after reply =
    boards_after.taken ≡ boards.taken
Moves alone boards boards_after seat asked.Version before after reply =
    boards_after.taken ≡ boards.taken

abbrev pub is_turn : Asked → Bool
is_turn asked.Turn = true
is_turn (asked.Refused why) = false
is_turn asked.Put = false
is_turn asked.Delete = false
is_turn asked.Get = false
is_turn asked.GetNow = false
is_turn asked.Commit = false
is_turn asked.Version = false

-- how many boards a request may have taken: one, where it is a turn whose reply isn't that no frame
-- waits
abbrev pub taken_by : Asked → Reply → ℕ
taken_by wanted reply = if is_turn wanted && not (text_eq reply.body idle_body) then 1 else 0

-- the texts taken grew by at most so many, where they are told
abbrev pub GrewBy : ℕ → Option (List ℕ) → Option (List ℕ) → Type 0
GrewBy most None after = after ≡ None
GrewBy most (Some before) after =
    (more : List ℕ) × (after ≡ Some (before ++ more)) × (length more ≤ most)
