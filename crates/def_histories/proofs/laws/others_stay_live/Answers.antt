use Rattle.def_histories.proofs.LiveProofs.{others_stay_live}
use Rattle.def_histories.proofs.laws.others_stay_live.Goals as goal

pub returns : goal.returns
returns c = others_stay_live
