use Rattle.lf_session.proofs.WorkedEndProofs.{worked_ends}
use Rattle.lf_session.proofs.law.worked_ends.Goals as goal

pub returns : goal.returns
returns c = worked_ends
