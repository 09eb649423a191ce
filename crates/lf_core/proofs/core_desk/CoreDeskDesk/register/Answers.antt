use Rattle.lf_core.proofs.Staying.{stays_register}
use Rattle.lf_core.proofs.Lone.{lone_call}
use Rattle.lf_core.proofs.LegalSteps.{legal_register}
use Rattle.lf_core.proofs.core_desk.CoreDeskDesk.register.Goals as goal

pub returns-clause-call : goal.returns-clause-call
returns-clause-call c =
    lone_call _ _ _ _ _ _ c.register.ensures.entry
    (legal_register _ _ _ _ _ _ c.args.self.now.legal c.register.ensures.answer c.register.ensures.entry) c.register.ensures.answer

pub invariant_of-self : goal.invariant_of-self
invariant_of-self c = record {
  legal = legal_register _ _ _ _ _ _ c.args.self.now.legal c.register.ensures.answer c.register.ensures.entry;
}

pub returns-clause-away : goal.returns-clause-away
returns-clause-away c =
    λ _. stays_register c.args.self.now.state c.register.new.self c.args.self.now.seat c.args.name.now c.args.text.now c.register.result
    c.boards_are_of_live.ensures c.register.ensures.entry c.register.ensures.boards
