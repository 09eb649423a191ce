use Rattle.lf_session.proofs.LookingProofs.{gets_are_answered}
use Rattle.lf_session.proofs.law.gets_are_answered.Goals as goal

pub returns : goal.returns
returns c = gets_are_answered
