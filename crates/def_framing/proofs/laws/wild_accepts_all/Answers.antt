use Rattle.def_framing.proofs.Matched.{wild_accepts}
use Rattle.def_framing.proofs.laws.wild_accepts_all.Goals as goal

pub returns : goal.returns
returns c = wild_accepts
