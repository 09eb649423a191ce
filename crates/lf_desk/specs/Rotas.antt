-- Turns of a desk: a job is taken, worked on and given back.
use Rattle.std.specs.Prelude.{◌≡◌, List, [], ◌∷◌, ◌++◌, ℕ, nat_eq, length, Bool, true, not, IsTrue, Option, Some, None, Result, Ok, Err}
use Rattle.std.specs.List.{filter}
use Rattle.lf_base.specs.declared.memory.Memory.{Memory}
use Rattle.lf_rdf.specs.declared.quad.Signed.{Signed}
use Rattle.def_contexts.specs.Frames.{FrameMeaning}
use Rattle.def_histories.specs.declared.live.Live.{Live}
use Rattle.def_histories.specs.declared.operation.Operation.{Operation}
use Rattle.def_histories.specs.History.{live, patches}
use Rattle.def_histories.specs.Jobs.{Fits, Job}
use Rattle.def_turns.specs.declared.turned.Turned.{Turned}
use Rattle.def_turns.specs.Turns.{entry_of, given_back, is_away, next_frame, waiting}
use Rattle.lf_frames.specs.FrameTexts.{accepted, frame_text}

-- the number of a board's version
abbrev pub board_number : Option (List (List Signed)) → Option ℕ
board_number None = None
board_number (Some patches) = Some (length patches)

-- the texts taken, with one more
abbrev pub taken_too : Option (List ℕ) → ℕ → Option (List ℕ)
taken_too None number = None
taken_too (Some numbers) number = Some (numbers ++ number ∷ [])

-- the texts away without that of a job
abbrev pub back : ℕ → List ℕ → List ℕ
back number away = filter (λ other. not (nat_eq other number)) away

-- A job was taken, and its text is away. By the other texts that are away its frame is next: these
-- would be away if it hadn't been taken. The job has the live text number, and is to reach the
-- newest version. With a seat that is alone no other text went or came.
pub record IsTaken (alone : Bool) (history : List Operation) (before after : List ℕ) (job : Job) :
    Type 0 where
  pub frame : Live
  pub next : next_frame (back job.number after) history ≡ Some frame
  pub live : live history job.name ≡ Some frame
  pub number : job.number ≡ frame.number
  pub target : job.target ≡ patches history
  pub out : IsTrue (is_away after frame)
  pub lone : alone ≡ true → back job.number after ≡ before

-- what a call that takes tells: the history goes on by others alone, and either no frame waits or a
-- job was taken
abbrev pub Takes :
    Bool → List Operation → List ℕ → List ℕ → Option (List ℕ) → Option (List ℕ) →
    Result (Option Job) Memory → Type 0
Takes alone history before after taken taken_after (Ok None) =
    (waiting after history ≡ []) × (taken_after ≡ taken) × (alone ≡ true → after ≡ before)
Takes alone history before after taken taken_after (Ok (Some job)) =
    IsTaken alone history before after job × (taken_after ≡ taken_too taken job.number)
Takes alone history before after taken taken_after (Err refused) =
    (taken_after ≡ taken) × (alone ≡ true → after ≡ before)

-- what a call that gives back tells of the history that it saw, and the entry that it made
abbrev pub Gives : List Operation → Job → Result Turned Memory → Type 0
Gives seen job (Ok turned) = turned ≡ given_back seen job.name job.number (board_number job.board)
Gives seen job (Err refused) = Unit {0}

abbrev pub given_entry : Result Turned Memory → List Operation
given_entry (Ok turned) = entry_of turned
given_entry (Err refused) = []

-- with a seat that is alone a board that was given back is no longer away, and all others are as
-- they were
abbrev pub ComesBack : Bool → ℕ → List ℕ → List ℕ → Type 0
ComesBack alone number before after = alone ≡ true → after ≡ back number before

-- a job that was worked on has its board at the version that it was to reach
abbrev pub worked : Job → Job
worked job =
    record { name = job.name; number = job.number; board = Some job.target; target = job.target }

-- the same of jobs that tell it by a function
abbrev pub told_by :
    {J : Type 0} → (J → Job) → Result (Option J) Memory → Result (Option Job) Memory
told_by told (Ok None) = Ok None
told_by told (Ok (Some job)) = Ok (Some (told job))
told_by told (Err refused) = Err refused

abbrev pub TakesBy :
    {J : Type 0} → (J → Job) → Bool → List Operation → List ℕ → List ℕ → Option (List ℕ) →
    Option (List ℕ) → Result (Option J) Memory → Type 0
TakesBy told alone history before after taken taken_after result =
    Takes alone history before after taken taken_after (told_by told result)

-- A job is one of the history's own: its board begins the version that it is to reach, which begins
-- the history's commits; and its number is that of a registration of its name, with a text that
-- means the board's frame.
abbrev pub IsOwn : List Operation → FrameMeaning → Job → Type 0
IsOwn history meaning job = Fits (λ text. frame_text text ≡ accepted meaning) history job

abbrev pub IsOwnIfSome :
    {J : Type 0} → (J → FrameMeaning) → (J → Job) → List Operation → Option J → Type 0
IsOwnIfSome meaning told history None = Unit {0}
IsOwnIfSome meaning told history (Some job) = IsOwn history (meaning job) (told job)
