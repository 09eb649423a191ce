use Rattle.lf_core.proofs.Staying.{stays_commit}
use Rattle.lf_core.proofs.Lone.{lone_call}
use Rattle.lf_core.proofs.LegalSteps.{legal_commit}
use Rattle.lf_core.proofs.core_desk.CoreDeskDesk.commit.Goals as goal

pub returns-clause-call : goal.returns-clause-call
returns-clause-call c =
    lone_call _ _ _ _ _ _ c.commit.ensures.entry
    (legal_commit _ _ _ _ _ c.args.self.now.legal c.commit.ensures.answer c.commit.ensures.entry) c.commit.ensures.answer

pub invariant_of-self : goal.invariant_of-self
invariant_of-self c = record {
  legal = legal_commit _ _ _ _ _ c.args.self.now.legal c.commit.ensures.answer c.commit.ensures.entry;
}

pub returns-clause-away : goal.returns-clause-away
returns-clause-away c =
    λ _. stays_commit c.args.self.now.state c.commit.new.self c.args.self.now.seat c.args.patch c.commit.result c.commit.ensures.entry
    c.commit.ensures.boards
