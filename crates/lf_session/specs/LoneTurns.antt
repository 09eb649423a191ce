-- The turns of a seat that is alone, where no board is away at the start.
use Rattle.std.specs.Prelude.{◌≡◌, List, [], ◌∷◌, ℕ, true, Option, Result}
use Rattle.lf_base.specs.declared.memory.Memory.{Memory}
use Rattle.def_histories.specs.declared.operation.Operation.{Operation}
use Rattle.def_turns.specs.declared.turned.Turned.{Turned}
use Rattle.lf_pool.specs.Causes.{LoneTurn}
use Rattle.lf_session.specs.declared.ended.Ended.{Ended}
use Rattle.lf_session.specs.Boards.{boards_of}
use Rattle.lf_session.specs.Moving.{is_turn}
use Rattle.lf_session.specs.Replies.{turn_reply}
use Rattle.lf_session.specs.Requests.{asked_by}
use Rattle.lf_session.specs.Exchanges.{Exchange, history_of}
use Rattle.lf_session.specs.Session.{Last, IsSession}
use Rattle.lf_session.specs.Headline.{answered}

-- It is answered that no frame waits exactly where none does, unless no memory is found; then
-- nothing is new. Otherwise the frame that is next is published, at the newest version or at an
-- older one that is newer than what is published.
abbrev pub IsLoneTurn : List Operation → Exchange → Type 0
IsLoneTurn before x =
    (result : Result Turned Memory) × LoneTurn before (history_of x) [] result
    × (x.reply ≡ turn_reply result)

abbrev pub AreLoneTurns : List Operation → List Exchange → Type 0
AreLoneTurns before [] = Unit {0}
AreLoneTurns before (x ∷ xs) =
    (is_turn (asked_by x.head) ≡ true → IsLoneTurn before x) × AreLoneTurns (history_of x) xs

abbrev pub LoneTurnsPublish : Type 0
LoneTurnsPublish =
    (taken : Option (List ℕ)) (seat : ℕ) (bytes written : List ℕ) (left : Option (List ℕ))
    (before after : List Operation) (end : Ended)
    (xs : List Exchange) (last : Last)
    → IsSession true (boards_of [] taken) seat bytes left before after written end xs last →
    AreLoneTurns before (answered xs last)
