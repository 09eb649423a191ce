use Rattle.def_framing.proofs.Nesting.{tree_depth}
use Rattle.def_framing.proofs.laws.tree_is_within_depth.Goals as goal

pub returns : goal.returns
returns c = tree_depth
