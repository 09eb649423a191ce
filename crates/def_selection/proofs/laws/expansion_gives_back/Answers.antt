use Rattle.def_selection.proofs.RoundTrip.{gives-back}
use Rattle.def_selection.proofs.laws.expansion_gives_back.Goals as goal

pub returns : goal.returns
returns c = gives-back
