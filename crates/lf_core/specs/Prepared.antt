-- What is ready to be put: an operation, and for a commit the version after it.
use Rattle.std.specs.Prelude.{◌≡◌, List, [], ◌∷◌, ◌++◌, ℕ, suc, true, false, Option, None, Some, Result, Ok, Err}
use Rattle.std.specs.Arc.{arc_value}
use Rattle.lf_rdf.specs.declared.quad.Patch.{Patch}
use Rattle.lf_desk.specs.declared.refusals.CommitErr.{CommitErr}
use Rattle.lf_desk.specs.declared.refusals.RegisterErr.{RegisterErr}
use Rattle.lf_desk.specs.CommitAnswer.{CommitFails, commit_answer}
use Rattle.lf_desk.specs.RegisterAnswer.{RegisterFails, register_answer}
use Rattle.lf_frames.specs.FrameTexts.{is_frame}
use Rattle.lf_versions.specs.declared.commit.Commit as versions
use Rattle.lf_board.specs.Boards.{unturned}
use Rattle.def_histories.specs.declared.operation.Operation.{Operation}
use Rattle.def_histories.specs.declared.operation.Operation.TheVariants.{Commit, Register}
use Rattle.def_histories.specs.History.{commits}
use Rattle.def_histories.specs.Legal.{IsLegal}
use Rattle.lf_core.specs.declared.ready.Lent.{Lent}
use Rattle.lf_core.specs.declared.ready.Lent.TheVariants as l
use Rattle.lf_core.specs.declared.ready.NewFrame.{NewFrame}
use Rattle.lf_core.specs.declared.ready.Prepared.{Prepared}
use Rattle.lf_core.specs.declared.ready.Prepared.TheVariants as p
use Rattle.lf_core.specs.Entries.{commits_in, committing}
use Rattle.lf_core.specs.Kept.{IsMeant}

-- what contracts see of what is ready
pub record Prepares : Type 0 where
  pub operation : Operation
  pub version : Option (List versions.Commit)

abbrev pub registering : NewFrame → Operation
registering new = Register new.seat new.name new.text

abbrev pub prepares : Prepared → Prepares
prepares (p.Commit commit version) =
    record { operation = committing (arc_value commit); version = Some version }
prepares (p.Register new) = record { operation = registering new; version = None }

-- the operation that is lent
abbrev pub lent_operation : Lent → Operation
lent_operation (l.Commit commit) = committing (arc_value commit.now)
lent_operation (l.Register seat name text) = Register seat name.now text.now

-- the handles of a new frame are of one name and one text, and its frame and its board are of the
-- text
pub record IsNew (new : NewFrame) : Type 0 where
  pub name : new.live_name ≡ new.name
  pub text : new.live_text ≡ new.text
  pub read : IsMeant new.text new.frame
  pub board : new.board ≡ unturned new.frame

abbrev pub IsPrepared : Prepared → Type 0
IsPrepared (p.Commit commit version) = Unit {0}
IsPrepared (p.Register new) = IsNew new

abbrev pub IsVersionOf : List Operation → Option (List versions.Commit) → Type 0
IsVersionOf history None = Unit {0}
IsVersionOf history (Some version) = version ≡ commits_in history

-- it fits a history: with its operation the history is legal, and its version is that of the
-- history then
pub record FitsOn (history : List Operation) (ready : Prepares) : Type 0 where
  pub legal : IsLegal is_frame (history ++ ready.operation ∷ [])
  pub version : IsVersionOf (history ++ ready.operation ∷ []) ready.version

-- a commit is made ready: it would be accepted, or it is refused
abbrev pub ReadiesCommit : List Operation → ℕ → Patch → Result Prepares CommitErr → Type 0
ReadiesCommit history seat patch (Ok ready) =
    (commit_answer history patch ≡ Ok (suc (commits history)))
    × ((ready
    ≡ record {
      operation = Commit seat patch;
      version = Some (commits_in history ++ record { seat = seat; patch = patch } ∷ []);
    })
    × FitsOn history ready)
ReadiesCommit history seat patch (Err error) = CommitFails error (commit_answer history patch)

-- a registration is made ready: it would be accepted as new, or the text is live already, or it is
-- refused
abbrev pub ReadiesRegister :
    List Operation → ℕ → List ℕ → List ℕ → Result (Option Prepares) RegisterErr → Type 0
ReadiesRegister history seat name text (Ok None) = register_answer history name text ≡ Ok false
ReadiesRegister history seat name text (Ok (Some ready)) =
    (register_answer history name text ≡ Ok true)
    × ((ready ≡ record { operation = Register seat name text; version = None })
    × FitsOn history ready)
ReadiesRegister history seat name text (Err error) =
    RegisterFails error (register_answer history name text)
