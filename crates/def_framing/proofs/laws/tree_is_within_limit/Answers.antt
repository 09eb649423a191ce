use Rattle.def_framing.proofs.Counted.{tree_within}
use Rattle.def_framing.proofs.laws.tree_is_within_limit.Goals as goal

pub returns : goal.returns
returns c = tree_within
