-- A legal history stays so over the calls of a state.
use Rattle.std.proofs.Common.{◌≡◌, sym, ◌∙◌, subst, ℕ, List, [], ◌∷◌, ◌++◌, Bool, true, false, cond, is_some, Result, Ok, Err}
use Rattle.std.proofs.lemmas.List.{append-nil}
use Rattle.lf_rdf.specs.declared.quad.Patch.{Patch}
use Rattle.lf_desk.specs.declared.refusals.CommitErr.{CommitErr}
use Rattle.lf_desk.specs.declared.refusals.RegisterErr.{RegisterErr}
use Rattle.def_histories.specs.declared.operation.Operation.{Operation}
use Rattle.def_histories.specs.declared.operation.Operation.TheVariants.{Commit, Register, Retire}
use Rattle.def_histories.specs.History.{live}
use Rattle.def_histories.specs.Legal.{IsLegal}
use Rattle.def_histories.proofs.LegalProofs.{allowed_is_legal}
use Rattle.lf_frames.specs.FrameTexts.{is_frame}
use Rattle.lf_desk.specs.CommitAnswer.{commit_answer, CommitAnswers, committed_by}
use Rattle.lf_desk.specs.RegisterAnswer.{register_answer, registered_by, RegisterAnswers}
use Rattle.lf_desk.proofs.PatchAnswers as patches
use Rattle.lf_desk.proofs.FrameAnswers as frames

unchanged : (before after : List Operation) → IsLegal is_frame before → after ≡ before ++ [] → IsLegal is_frame after
unchanged before after legal entered = subst (IsLegal is_frame) (sym (entered ∙ append-nil before)) legal

pub legal_commit : (before after : List Operation) (seat : ℕ) (patch : Patch) (result : Result ℕ CommitErr)
    → IsLegal is_frame before → CommitAnswers result (commit_answer before patch)
    → after ≡ before ++ committed_by seat patch result → IsLegal is_frame after
legal_commit before after seat patch (Ok version) legal says entered =
    subst (IsLegal is_frame) (sym entered)
    (allowed_is_legal is_frame before (Commit seat patch) legal (patches.accepted before patch version says))
legal_commit before after seat patch (Err error) legal says entered = unchanged before after legal entered

pub legal_register : (before after : List Operation) (seat : ℕ) (name text : List ℕ) (result : Result Bool RegisterErr)
    → IsLegal is_frame before → RegisterAnswers result (register_answer before name text)
    → after ≡ before ++ registered_by seat name text result → IsLegal is_frame after
legal_register before after seat name text (Ok true) legal says entered =
    subst (IsLegal is_frame) (sym entered)
    (allowed_is_legal is_frame before (Register seat name text) legal (frames.accepted before name text says))
legal_register before after seat name text (Ok false) legal says entered = unchanged before after legal entered
legal_register before after seat name text (Err error) legal says entered = unchanged before after legal entered

pub legal_retire : (before after : List Operation) (seat : ℕ) (name : List ℕ) (was_live : Bool)
    → IsLegal is_frame before → was_live ≡ is_some (live before name)
    → after ≡ cond was_live (before ++ Retire seat name ∷ []) before → IsLegal is_frame after
legal_retire before after seat name true legal says entered =
    subst (IsLegal is_frame) (sym entered) (allowed_is_legal is_frame before (Retire seat name) legal (sym says))
legal_retire before after seat name false legal says entered = subst (IsLegal is_frame) (sym entered) legal
