use Rattle.def_framing.proofs.Matched.{present_refused}
use Rattle.def_framing.proofs.laws.present_is_refused.Goals as goal

pub returns : goal.returns
returns c = present_refused
