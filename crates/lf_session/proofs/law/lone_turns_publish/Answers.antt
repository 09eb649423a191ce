use Rattle.lf_session.proofs.LoneProofs.{lone_turns_publish}
use Rattle.lf_session.proofs.law.lone_turns_publish.Goals as goal

pub returns : goal.returns
returns c = lone_turns_publish
