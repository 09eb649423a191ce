use Rattle.lf_session.proofs.RefreshingProofs.{refreshes_are_answered}
use Rattle.lf_session.proofs.law.refreshes_are_answered.Goals as goal

pub returns : goal.returns
returns c = refreshes_are_answered
