use Rattle.def_framing.proofs.OnPath.{once_once}
use Rattle.def_framing.proofs.laws.once_is_once.Goals as goal

pub returns : goal.returns
returns c = once_once
