use Rattle.def_nested.proofs.Unfolded.{nested_past}
use Rattle.def_nested.proofs.laws.nested_ends.Goals as goal

pub returns : goal.returns
returns c = nested_past
