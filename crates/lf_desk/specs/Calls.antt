-- A call of a desk: what others made before it comes first, and what the call itself made is the
-- last entry.
use Rattle.std.specs.Prelude.{◌≡◌, List, [], ◌∷◌, ◌++◌, ℕ, Bool, true, false, is_some, Result, Ok, Err}
use Rattle.lf_base.specs.declared.memory.Memory.{Memory}
use Rattle.def_histories.specs.declared.operation.Operation.{Operation}
use Rattle.def_histories.specs.declared.operation.Operation.TheVariants.{Retire}
use Rattle.def_histories.specs.History.{live}
use Rattle.def_histories.specs.Legal.{IsLegal}
use Rattle.lf_frames.specs.FrameTexts.{is_frame}
use Rattle.def_turns.specs.Turns.{still_live}
use Rattle.lf_desk.specs.Seats.{IsExtended}

-- The histories before and after a call, what it made, and what its answer says of the history that
-- it saw.
pub record IsCall (alone : Bool) (seat : ℕ) (before after made : List Operation)
    (Says : List Operation → Type 0) : Type 0 where
  pub seen : List Operation
  pub came : IsExtended alone seat before seen
  pub entered : after ≡ seen ++ made
  pub legal : IsLegal is_frame after
  pub says : Says seen

-- a retirement answers whether the name was live, unless no memory was found
abbrev pub Retires : List Operation → List ℕ → Result Bool Memory → Type 0
Retires history name (Ok was_live) = was_live ≡ is_some (live history name)
Retires history name (Err refused) = Unit {0}

-- the entry that a retirement makes: one where the name was live
abbrev pub retired_by : ℕ → List ℕ → Result Bool Memory → List Operation
retired_by seat name (Ok true) = Retire seat name ∷ []
retired_by seat name (Ok false) = []
retired_by seat name (Err refused) = []

-- with a seat that is alone the texts away stay, but those that are no longer live
abbrev pub StaysAway : Bool → List Operation → List ℕ → List ℕ → Type 0
StaysAway alone history before after = alone ≡ true → after ≡ still_live history before
