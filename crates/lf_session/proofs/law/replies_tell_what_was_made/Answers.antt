use Rattle.lf_session.proofs.MadeProofs.{replies_tell_what_was_made}
use Rattle.lf_session.proofs.law.replies_tell_what_was_made.Goals as goal

pub returns : goal.returns
returns c = replies_tell_what_was_made
