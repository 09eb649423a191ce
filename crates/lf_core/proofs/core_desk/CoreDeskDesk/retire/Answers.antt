use Rattle.lf_core.proofs.Staying.{stays_retire}
use Rattle.lf_core.proofs.Lone.{lone_call, entry_of}
use Rattle.lf_core.proofs.LegalSteps.{legal_retire}
use Rattle.lf_core.proofs.core_desk.CoreDeskDesk.retire.Goals as goal

pub returns-clause-call : goal.returns-clause-call
returns-clause-call c =
    lone_call _ _ _ _ _ _ (entry_of _ _ c.args.self.now.seat c.args.name.now c.retire.result c.retire.ensures.entry)
    (legal_retire _ _ _ _ _ c.args.self.now.legal c.retire.ensures.answer c.retire.ensures.entry) c.retire.ensures.answer

pub invariant_of-self : goal.invariant_of-self
invariant_of-self c = record {
  legal = legal_retire _ _ _ _ _ c.args.self.now.legal c.retire.ensures.answer c.retire.ensures.entry;
}

pub returns-clause-away : goal.returns-clause-away
returns-clause-away c =
    λ _. stays_retire c.args.self.now.state c.retire.new.self c.args.self.now.seat c.args.name.now c.retire.result c.boards_are_of_live.ensures
    c.retire.ensures.entry c.retire.ensures.boards
