use Rattle.lf_session.proofs.FirstSessionProofs.{first_session}
use Rattle.lf_session.proofs.law.first_session.Goals as goal

pub returns : goal.returns
returns c = first_session
