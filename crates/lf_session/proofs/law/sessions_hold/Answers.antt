use Rattle.lf_session.proofs.HeadlineProofs.{sessions_hold}
use Rattle.lf_session.proofs.law.sessions_hold.Goals as goal

pub returns : goal.returns
returns c = sessions_hold
