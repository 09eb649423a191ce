use Rattle.def_framing.proofs.Matched.{same_views}
use Rattle.def_framing.proofs.laws.same_views_same_tree.Goals as goal

pub returns : goal.returns
returns c = same_views
