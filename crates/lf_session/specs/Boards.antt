-- What a seat tells of boards: the texts whose boards are away, and those whose boards it has
-- taken.
use Rattle.std.specs.Prelude.{◌≡◌, List, [], ℕ, Bool, true, Option, None}
use Rattle.def_histories.specs.declared.operation.Operation.{Operation}
use Rattle.def_turns.specs.Turns.{still_live}

-- Texts are told by their numbers. Those that were taken may be untold.
pub record Boards : Type 0 where
  pub away : List ℕ
  pub taken : Option (List ℕ)

abbrev pub boards_of : List ℕ → Option (List ℕ) → Boards
boards_of away taken = record { away = away; taken = taken }

-- no board is away, and none that was taken is told
abbrev pub no_boards : Boards
no_boards = boards_of [] None

-- with a seat that is alone the texts away after a request are those before it that are still live
abbrev pub StaysOut : Bool → List Operation → Boards → Boards → Type 0
StaysOut alone history before after = alone ≡ true → after.away ≡ still_live history before.away

-- a request that is no turn: no board is taken, and none goes or comes home
pub record KeepsBoards (alone : Bool) (history : List Operation) (before after : Boards) :
    Type 0 where
  pub taken : after.taken ≡ before.taken
  pub out : StaysOut alone history before after
