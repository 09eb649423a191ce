-- What contracts see of a state: its history, the boards that are at home, and its places, which is
-- room for entries.
use Rattle.std.specs.Prelude.{◌≡◌, List, [], ◌∷◌, ◌++◌, ℕ, nat_eq, suc, Bool, true, false, not, map, Option, None, Some, Result, Ok, Err}
use Rattle.std.specs.List.{filter, flat_map, list_any, AllByRecursion}
use Rattle.lf_rdf.specs.Equality.{text_eq}
use Rattle.lf_model.specs.declared.frame.Frame.{Frame}
use Rattle.def_histories.specs.declared.live.Live.{Live}
use Rattle.def_histories.specs.declared.operation.Operation.{Operation}
use Rattle.def_histories.specs.declared.operation.Operation.TheVariants.{Commit, Register, Retire, Publish}
use Rattle.def_histories.specs.History.{live, live_frames, registrations}
use Rattle.lf_desk.specs.declared.refusals.RegisterErr.{RegisterErr}
use Rattle.lf_board.specs.Boards.{MayTurn, Shown, unturned}
use Rattle.lf_core.specs.declared.frames.Kept.{Kept}
use Rattle.lf_core.specs.Entries.{commits_in}
use Rattle.lf_core.specs.Kept.{IsMeant}

-- a board at home, under the name and the text number of its frame
pub record Held : Type 0 where
  pub name : List ℕ
  pub number : ℕ
  pub board : Shown

pub record Seen : Type 0 where
  pub history : List Operation
  pub boards : List Held
  pub places : ℕ

abbrev pub held_by : Live → Option Shown → List Held
held_by frame None = []
held_by frame (Some board) = record { name = frame.name; number = frame.number; board = board } ∷ []

abbrev pub held_of : Kept → List Held
held_of kept = held_by kept.live kept.board

abbrev pub boards_of : List Kept → List Held
boards_of frames = flat_map held_of frames

-- A board at home is that of a live text: it has the frame that the text means, and its version
-- begins the history's commits. By its type it has the document of that version, from scratch.
pub record IsHeld (history : List Operation) (held : Held) : Type 0 where
  pub frame : Live
  pub live : live history held.name ≡ Some frame
  pub number : held.number ≡ frame.number
  pub read : IsMeant frame.text held.board.frame
  pub begun : MayTurn held.board (commits_in history)

abbrev pub AreHeld : List Operation → List Held → Type 0
AreHeld history boards = AllByRecursion (IsHeld history) boards

-- the boards of other names
abbrev pub of_others : List ℕ → List Held → List Held
of_others name boards = filter (λ (held : Held). not (text_eq name held.name)) boards

-- the boards of other texts
abbrev pub of_other_texts : ℕ → List Held → List Held
of_other_texts number boards = filter (λ (held : Held). not (nat_eq number held.number)) boards

-- the board of a text is at home
abbrev pub is_home : List Held → ℕ → Bool
is_home boards number = list_any (λ (held : Held). nat_eq number held.number) boards

-- the texts whose boards are away, by their numbers
abbrev pub numbers : List Live → List ℕ
numbers frames = map (λ (frame : Live). frame.number) frames

abbrev pub away_from : List Operation → List Held → List ℕ
away_from history boards =
    filter (λ number. not (is_home boards number)) (numbers (live_frames history))

abbrev pub away : Seen → List ℕ
away seen = away_from seen.history seen.boards

-- a registration has a new board, of the frame that its text means
pub record HasNewBoard (before : Seen) (name text : List ℕ) (boards : List Held) : Type 0 where
  pub frame : Frame
  pub read : IsMeant text frame
  pub put :
      boards
      ≡ of_others name before.boards
      ++ record
      { name = name; number = suc (registrations before.history); board = unturned frame }
      ∷ []

-- the boards after a registration: they stay, but where it is new
abbrev pub RegistersBoard : Seen → List ℕ → List ℕ → Result Bool RegisterErr → List Held → Type 0
RegistersBoard before name text (Ok true) boards = HasNewBoard before name text boards
RegistersBoard before name text (Ok false) boards = boards ≡ before.boards
RegistersBoard before name text (Err error) boards = boards ≡ before.boards

-- an operation that is put: a registration has a new board, and all others stay
abbrev pub PutsBoards : Seen → Operation → List Held → Type 0
PutsBoards before (Commit seat patch) boards = boards ≡ before.boards
PutsBoards before (Register seat name text) boards = HasNewBoard before name text boards
PutsBoards before (Retire seat name) boards = boards ≡ of_others name before.boards
PutsBoards before (Publish name version) boards = boards ≡ before.boards

-- where something was made ready
abbrev pub OnReady : {A E : Type 0} → Result (Option A) E → Type 0 → Type 0
OnReady (Ok (Some made)) Fact = Fact
OnReady (Ok None) Fact = Unit {0}
OnReady (Err error) Fact = Unit {0}
