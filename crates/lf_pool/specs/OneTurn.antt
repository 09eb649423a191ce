-- One turn over any rota, and what its answers say.
use Rattle.std.specs.Prelude.{◌≡◌, ◌⊎◌, List, [], ◌++◌, ℕ, length, Bool, true, Option, Some, Result, Ok, Err}
use Rattle.lf_base.specs.declared.memory.Memory.{Memory}
use Rattle.def_histories.specs.declared.operation.Operation.{Operation}
use Rattle.def_histories.specs.Jobs.{Job}
use Rattle.def_histories.specs.Legal.{IsLegal}
use Rattle.def_turns.specs.declared.turned.Given.TheVariants.{Publishes}
use Rattle.def_turns.specs.declared.turned.Turned.{Turned}
use Rattle.def_turns.specs.declared.turned.Turned.TheVariants as t
use Rattle.def_turns.specs.Turns.{entry_of, given_back, kind_of, waiting}
use Rattle.lf_frames.specs.FrameTexts.{is_frame}
use Rattle.lf_desk.specs.Rotas.{IsTaken, back, board_number, taken_too}
use Rattle.lf_desk.specs.Seats.{IsExtended}

-- A board that was brought to the version that it was to reach, or an older turn of it that is
-- newer than what is published, was given back to a history; that has one entry more where it was
-- published.
abbrev pub Answered : Job → List Operation → List Operation → Result Turned Memory → Type 0
Answered job given_at after (Ok turned) =
    (after ≡ given_at ++ entry_of turned)
    × ((turned ≡ given_back given_at job.name job.number (Some (length job.target)))
    ⊎ ((turned ≡ given_back given_at job.name job.number (board_number job.board))
    × (kind_of turned ≡ Publishes)))
Answered job given_at after (Err refused) = after ≡ given_at

-- a job was worked on and given back
pub record IsGiven (alone : Bool) (seat : ℕ) (before after : List Operation)
    (away away_after : List ℕ) (job : Job) (result : Result Turned Memory) : Type 0 where
  pub given_at : List Operation
  pub went : IsExtended alone seat before given_at
  pub answer : Answered job given_at after result
  pub legal : IsLegal is_frame after
  pub left : alone ≡ true → away_after ≡ back job.number away

-- a job was taken by the history of that time, worked on and given back
pub record IsMade (alone : Bool) (seat : ℕ) (before after : List Operation)
    (away away_after : List ℕ) (taken taken_after : Option (List ℕ)) (result : Result Turned Memory)
    : Type 0 where
  pub taken_at : List Operation
  pub came : IsExtended alone seat before taken_at
  pub out : List ℕ
  pub job : Job
  pub is : IsTaken alone taken_at away out job
  pub given : IsGiven alone seat taken_at after out away_after job result
  pub told : taken_after ≡ taken_too taken job.number

-- no job was taken: no frame waits, or no memory was found
pub record IsNone (alone : Bool) (seat : ℕ) (before after : List Operation)
    (away away_after : List ℕ) (taken taken_after : Option (List ℕ)) : Type 0 where
  pub came : IsExtended alone seat before after
  pub legal : IsLegal is_frame after
  pub told : taken_after ≡ taken
  pub lone : alone ≡ true → away_after ≡ away

abbrev pub IsTurn :
    Bool → ℕ → List Operation → List Operation → List ℕ → List ℕ → Option (List ℕ) →
    Option (List ℕ) → Result Turned Memory → Type 0
IsTurn alone seat before after away away_after taken taken_after (Ok t.Idle) =
    (waiting away_after after ≡ [])
    × IsNone alone seat before after away away_after taken taken_after
IsTurn alone seat before after away away_after taken taken_after (Ok (t.Published name version)) =
    IsMade alone seat before after away away_after taken taken_after (Ok (t.Published name version))
IsTurn alone seat before after away away_after taken taken_after (Ok (t.Home name version)) =
    IsMade alone seat before after away away_after taken taken_after (Ok (t.Home name version))
IsTurn alone seat before after away away_after taken taken_after (Ok (t.Superseded name was now)) =
    IsMade alone seat before after away away_after taken taken_after
    (Ok (t.Superseded name was now))
IsTurn alone seat before after away away_after taken taken_after (Err refused) =
    IsNone alone seat before after away away_after taken taken_after
    ⊎ IsMade alone seat before after away away_after taken taken_after (Err refused)

-- what was published is answered, and all else is want of memory, with no entry made
abbrev pub KeepsPublished : Turned → Result Turned Memory → Type 0
KeepsPublished given (Ok turned) = (turned ≡ given) × (kind_of turned ≡ Publishes)
KeepsPublished given (Err refused) = entry_of given ≡ []
