-- What is made ready is what is put.
use Rattle.std.proofs.Common.{◌≡◌, sym, ◌∙◌, ap, subst, suc, ℕ, List, [], ◌∷◌, ◌++◌, true, Option, Some, None, Ok}
use Rattle.lf_rdf.specs.declared.quad.Patch.{Patch}
use Rattle.lf_model.specs.declared.frame.Frame.{Frame}
use Rattle.def_histories.specs.declared.operation.Operation.{Operation}
use Rattle.def_histories.specs.declared.operation.Operation.TheVariants.{Register}
use Rattle.def_histories.specs.History.{commits, registrations}
use Rattle.def_histories.specs.Legal.{IsLegal}
use Rattle.def_histories.proofs.LegalProofs.{allowed_is_legal}
use Rattle.def_histories.proofs.LiveProofs.{commit_makes_version}
use Rattle.lf_frames.specs.FrameTexts.{frame_text, is_frame}
use Rattle.lf_desk.specs.CommitAnswer.{commit_answer}
use Rattle.lf_desk.specs.RegisterAnswer.{register_answer}
use Rattle.lf_desk.proofs.FrameAnswers as frames
use Rattle.lf_board.specs.Boards.{unturned}
use Rattle.lf_core.specs.declared.ready.NewFrame.{NewFrame}
use Rattle.lf_core.specs.Checks.{Tries}
use Rattle.lf_core.specs.Held.{HasNewBoard, Held, PutsBoards, Seen, of_others}
use Rattle.lf_core.specs.Prepared.{FitsOn, Prepares, ReadiesCommit, ReadiesRegister, registering}

pub commit_answers : (before ready_at after : Seen) (seat : ℕ) (patch : Patch) (ready : Prepares) (number : ℕ)
    → ReadiesCommit before.history seat patch (Ok ready) → ready_at.history ≡ before.history
    → after.history ≡ ready_at.history ++ ready.operation ∷ [] → number ≡ commits after.history
    → commit_answer before.history patch ≡ Ok number
commit_answers before ready_at after seat patch ready number (answer, (is, fits)) same entered counted =
    answer
    ∙ ap Ok
    (sym
    (counted
    ∙ (ap commits (entered ∙ (λ i. same i ++ (is i).operation ∷ [])) ∙ (commit_makes_version before.history seat patch).0)))

pub readied_frame : (history : List Operation) (seat : ℕ) (name text : List ℕ) (frame : Frame) (found : Option Frame) (new : NewFrame)
    → IsLegal is_frame history → found ≡ Some frame → Tries (frame_text text) (register_answer history name text) (Ok found)
    → new.seat ≡ seat → new.name ≡ name → new.text ≡ text
    → ReadiesRegister history seat name text (Ok (Some (record { operation = registering new; version = None })))
readied_frame history seat name text frame found new legal is told seated named texted = (answer, (shown, fits))
  where
    answer : register_answer history name text ≡ Ok true
    answer = (subst (λ (o : Option Frame). Tries (frame_text text) (register_answer history name text) (Ok o)) is told).0

    operation : registering new ≡ Register seat name text
    operation = λ i. Register (seated i) (named i) (texted i)

    shown : ◌≡◌ {A = Prepares} (record { operation = registering new; version = None }) (record { operation = Register seat name text; version = None })
    shown = λ i. record { operation = operation i; version = None }

    fits : FitsOn history (record { operation = registering new; version = None })
    fits = record {
      legal =
          subst (λ (entry : Operation). IsLegal is_frame (history ++ entry ∷ [])) (sym operation)
          (allowed_is_legal is_frame history (Register seat name text) legal (frames.accepted history name text answer));
      version = tt;
    }

pub put_board : (before ready_at : Seen) (boards : List Held) (seat : ℕ) (name text : List ℕ) (ready : Prepares) (found : Option Prepares)
    → found ≡ Some ready → ReadiesRegister before.history seat name text (Ok found) → ready_at.history ≡ before.history
    → ready_at.boards ≡ before.boards → PutsBoards ready_at ready.operation boards → HasNewBoard before name text boards
put_board before ready_at boards seat name text ready found is told same_history same_boards put = record {
  frame = new.frame;
  read = new.read;
  put =
      new.put
      ∙ (λ i. of_others name (same_boards i)
      ++ record { name = name; number = suc (registrations (same_history i)); board = unturned new.frame } ∷ []);
}
  where
    readied : ReadiesRegister before.history seat name text (Ok (Some ready))
    readied = subst (λ (o : Option Prepares). ReadiesRegister before.history seat name text (Ok o)) is told

    new : HasNewBoard ready_at name text boards
    new = subst (λ (one : Prepares). PutsBoards ready_at one.operation boards) (readied.1.0) put
