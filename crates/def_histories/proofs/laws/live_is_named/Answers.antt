use Rattle.def_histories.proofs.StandingProofs.{live_is_named}
use Rattle.def_histories.proofs.laws.live_is_named.Goals as goal

pub returns : goal.returns
returns c = live_is_named
