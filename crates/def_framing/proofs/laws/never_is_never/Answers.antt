use Rattle.def_framing.proofs.OnPath.{never_never}
use Rattle.def_framing.proofs.laws.never_is_never.Goals as goal

pub returns : goal.returns
returns c = never_never
