-- Jobs that were taken, as contracts see them.
use Rattle.std.specs.Prelude.{◌≡◌, ◌≤◌, List, ℕ, nat_eq, Option, None, Some, Result, Ok, Err}
use Rattle.std.specs.List.{find}
use Rattle.lf_base.specs.declared.memory.Memory.{Memory}
use Rattle.def_contexts.specs.Frames.{FrameMeaning}
use Rattle.def_contexts.specs.FrameValues.{frame_meaning}
use Rattle.def_histories.specs.declared.live.Live.{Live}
use Rattle.def_histories.specs.declared.operation.Operation.{Operation}
use Rattle.def_histories.specs.History.{live}
use Rattle.def_histories.specs.Jobs.{Job}
use Rattle.def_turns.specs.declared.turned.Turned.{Turned}
use Rattle.def_turns.specs.declared.turned.Turned.TheVariants as t
use Rattle.def_turns.specs.Turns.{given_back, next_frame}
use Rattle.lf_desk.specs.Rotas.{IsOwn}
use Rattle.lf_versions.specs.declared.commit.Commit.{Commit}
use Rattle.lf_versions.specs.Commits.{lines_of}
use Rattle.lf_board.specs.Boards.{Shown, number, patches_by, turned}
use Rattle.lf_core.specs.Entries.{commits_in}
use Rattle.lf_core.specs.Held.{Held, Seen, away, of_other_texts}

-- the frame's name and text number, the board, and the version that it is to reach
pub record Taken : Type 0 where
  pub name : List ℕ
  pub number : ℕ
  pub board : Shown
  pub target : List Commit

abbrev pub job_data : Taken → Job
job_data job =
    record {
      name = job.name;
      number = job.number;
      board = patches_by job.board.version;
      target = lines_of job.target;
    }

abbrev pub job_meaning : Taken → FrameMeaning
job_meaning job = frame_meaning job.board.frame

-- a job fits a history
abbrev pub FitsHistory : List Operation → Taken → Type 0
FitsHistory history job = IsOwn history (job_meaning job) (job_data job)

-- a job whose board was turned to the version that it was to reach
abbrev pub turned_job : Taken → Taken
turned_job job =
    record {
      name = job.name;
      number = job.number;
      board = turned job.board.frame job.target;
      target = job.target;
    }

-- the job's board, as it is at home
abbrev pub held_job : Taken → Held
held_job job = record { name = job.name; number = job.number; board = job.board }

-- the board at home of a text
abbrev pub home_of : ℕ → List Held → Option Held
home_of number boards = find (λ (held : Held). nat_eq number held.number) boards

-- a job was taken: it is that of the frame whose turn is next, which has its board at home, and
-- that board is in it as it was
pub record IsNextOf (before : Seen) (boards : List Held) (job : Taken) : Type 0 where
  pub frame : Live
  pub next : next_frame (away before) before.history ≡ Some frame
  pub live : live before.history job.name ≡ Some frame
  pub number : job.number ≡ frame.number
  pub target : job.target ≡ commits_in before.history
  pub fits : FitsHistory before.history job
  pub was_home : home_of job.number before.boards ≡ Some (held_job job)
  pub left : boards ≡ of_other_texts job.number before.boards

-- what taking a board answers; where none was taken, all boards stay
abbrev pub IsTakenFrom : Seen → List Held → Result (Option Taken) Memory → Type 0
IsTakenFrom before boards (Ok None) =
    (next_frame (away before) before.history ≡ None) × (boards ≡ before.boards)
IsTakenFrom before boards (Ok (Some job)) = IsNextOf before boards job
IsTakenFrom before boards (Err refused) = boards ≡ before.boards

-- what comes of a job by the history
abbrev pub given_job : List Operation → Taken → Turned
given_job history job = given_back history job.name job.number (number job.board)

-- a job that would publish needs a place
abbrev pub needs_place : Turned → ℕ → Type 0
needs_place t.Idle places = Unit {0}
needs_place (t.Published name version) places = 1 ≤ places
needs_place (t.Home name version) places = Unit {0}
needs_place (t.Superseded name was now) places = Unit {0}

abbrev pub NeedsPlace : Seen → Taken → Type 0
NeedsPlace seen job = needs_place (given_job seen.history job) seen.places

-- the job's text is live under its name
pub record IsStillLive (history : List Operation) (job : Taken) : Type 0 where
  pub frame : Live
  pub live : live history job.name ≡ Some frame
  pub number : job.number ≡ frame.number

-- the job's board is at home as it is, and all others stay
pub record HasHome (before : List Held) (job : Taken) (after : List Held) : Type 0 where
  pub home : home_of job.number after ≡ Some (held_job job)
  pub others : of_other_texts job.number after ≡ of_other_texts job.number before

-- with `Published` and `Home` the job's board is at home as it is
abbrev pub HasBack : Seen → Taken → Turned → List Held → Type 0
HasBack before job t.Idle after = after ≡ before.boards
HasBack before job (t.Published name version) after = HasHome before.boards job after
HasBack before job (t.Home name version) after = HasHome before.boards job after
HasBack before job (t.Superseded name was now) after = after ≡ before.boards
