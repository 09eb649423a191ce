-- Jobs: what was moved out to be brought to a version fits the history that it comes back to.
use Rattle.std.specs.Prelude.{◌≡◌, ◌≤◌, List, [], ◌∷◌, ◌++◌, ℕ, suc, length, Bool, Option, None, Some, IsTrue}
use Rattle.lf_rdf.specs.declared.quad.Signed.{Signed}
use Rattle.def_datasets.specs.Dataset.{at_version}
use Rattle.def_histories.specs.declared.operation.Operation.{Operation}
use Rattle.def_histories.specs.declared.operation.Operation.TheVariants.{Register}
use Rattle.def_histories.specs.History.{patches, commits, registrations}
use Rattle.def_histories.specs.Replay.{dataset_at}

-- What a job tells: its frame's name and text number, the commits of its board's version, where it
-- has one, and those of the version that it is to reach.
pub record Job : Type 0 where
  pub name : List ℕ
  pub number : ℕ
  pub board : Option (List (List Signed))
  pub target : List (List Signed)

-- some commits are a prefix of others
abbrev pub IsPrefix : List (List Signed) → List (List Signed) → Type 0
IsPrefix first all = (more : List (List Signed)) × (all ≡ first ++ more)

-- there are no commits, or they are a prefix
abbrev pub IsPrefixIfSome : Option (List (List Signed)) → List (List Signed) → Type 0
IsPrefixIfSome None all = Unit {0}
IsPrefixIfSome (Some first) all = IsPrefix first all

-- the registration of the history with this text number, counted from 1, has this name and text
pub record IsRegistered (history : List Operation) (text_number : ℕ) (name text : List ℕ) :
    Type 0 where
  pub before : List Operation
  pub seat : ℕ
  pub later : List Operation
  pub stands : history ≡ before ++ Register seat name text ∷ later
  pub numbered : text_number ≡ suc (registrations before)

-- A job fits a history. `Gives` says that a text expands to the board's frame.
pub record Fits (Gives : List ℕ → Type 0) (history : List Operation) (job : Job) : Type 0 where
  pub text : List ℕ
  pub board : IsPrefixIfSome job.board job.target
  pub target : IsPrefix job.target (patches history)
  pub registered : IsRegistered history job.number job.name text
  pub gives : Gives text

-- a job that fits a history fits each one that it is a prefix of
abbrev pub FittingJobsFitOn : Type 0
FittingJobsFitOn =
    (gives : List ℕ → Bool) (history later : List Operation) (job : Job)
    → Fits (λ text. IsTrue (gives text)) history job →
    Fits (λ text. IsTrue (gives text)) (history ++ later) job

-- a text number is that of one registration
abbrev pub TextNumbersAreOne : Type 0
TextNumbersAreOne =
    (history : List Operation) (text_number : ℕ) (name name2 text text2 : List ℕ)
    → IsRegistered history text_number name text → IsRegistered history text_number name2 text2 →
    (name ≡ name2) × (text ≡ text2)

-- the board of a job that fits is of a version of the history, under that version's number
abbrev pub FittingBoardsAreVersions : Type 0
FittingBoardsAreVersions =
    (gives : List ℕ → Bool) (history : List Operation) (job : Job) (board : List (List Signed))
    → Fits (λ text. IsTrue (gives text)) history job → job.board ≡ Some board
    →
    (length board ≤ commits history)
    × (at_version board (length board) ≡ dataset_at history (length board))
