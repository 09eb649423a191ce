use Rattle.def_contexts.proofs.Framed.{one_map_in_an_array}
use Rattle.def_contexts.proofs.laws.one_map_in_an_array.Goals as goal

pub returns : goal.returns
returns c = one_map_in_an_array
