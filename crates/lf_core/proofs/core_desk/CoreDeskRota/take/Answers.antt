use Rattle.std.proofs.Common.{sym, ◌∙◌, subst, List}
use Rattle.std.proofs.lemmas.List.{append-nil}
use Rattle.def_histories.specs.declared.operation.Operation.{Operation}
use Rattle.def_histories.specs.Legal.{IsLegal}
use Rattle.lf_frames.specs.FrameTexts.{is_frame}
use Rattle.lf_core.proofs.Lone.{lone_call}
use Rattle.lf_core.proofs.Turning.{takes}
use Rattle.lf_core.proofs.core_desk.CoreDeskRota.take.Goals as goal

pub returns-clause-call : goal.returns-clause-call
returns-clause-call c =
    lone_call _ _ _ _ _ _ (c.take_board.ensures.history ∙ sym (append-nil c.args.self.now.state.history))
    (subst (λ (history : List Operation). IsLegal is_frame history) (sym c.take_board.ensures.history) c.args.self.now.legal)
    (takes c.args.self.now.state c.take_board.new.self c.take_board.result c.take_board.ensures.answer c.take_board.ensures.history)
