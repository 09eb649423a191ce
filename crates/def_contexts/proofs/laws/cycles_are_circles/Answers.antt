use Rattle.def_contexts.proofs.TableHolding.{cycles_are_circles}
use Rattle.def_contexts.proofs.laws.cycles_are_circles.Goals as goal

pub returns : goal.returns
returns c = cycles_are_circles
