use Rattle.lf_session.proofs.ToldProofs.{streams_end_as_told}
use Rattle.lf_session.proofs.law.streams_end_as_told.Goals as goal

pub returns : goal.returns
returns c = streams_end_as_told
