use Rattle.def_histories.proofs.StandingProofs.{published_was_committed}
use Rattle.def_histories.proofs.laws.published_was_committed.Goals as goal

pub returns : goal.returns
returns c = published_was_committed
