use Rattle.def_framing.proofs.OnPath.{entered_is_new}
use Rattle.def_framing.proofs.laws.entered_graph_is_new.Goals as goal

pub returns : goal.returns
returns c = entered_is_new
