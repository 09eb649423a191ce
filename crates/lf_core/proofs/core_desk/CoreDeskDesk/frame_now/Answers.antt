use Rattle.lf_core.proofs.Staying.{stays}
use Rattle.lf_core.proofs.Lone.{lone_read}
use Rattle.lf_core.proofs.core_desk.CoreDeskDesk.frame_now.Goals as goal

pub returns-clause-call : goal.returns-clause-call
returns-clause-call c = lone_read _ _ _ _ c.args.self.now.legal c.frame_now.ensures

pub returns-clause-away : goal.returns-clause-away
returns-clause-away c = λ _. stays c.args.self.now.state
