use Rattle.def_framing.proofs.OnPath.{path_left_alone}
use Rattle.def_framing.proofs.laws.path_is_left_alone.Goals as goal

pub returns : goal.returns
returns c = path_left_alone
