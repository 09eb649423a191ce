use Rattle.lf_session.proofs.ToldProofs.{whole_streams_are_served}
use Rattle.lf_session.proofs.law.whole_streams_are_served.Goals as goal

pub returns : goal.returns
returns c = whole_streams_are_served
