use Rattle.def_nested.proofs.Unfolded.{nested_built}
use Rattle.def_nested.proofs.laws.nested_is_built.Goals as goal

pub returns : goal.returns
returns c = nested_built
