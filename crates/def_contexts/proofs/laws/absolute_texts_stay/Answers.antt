use Rattle.def_contexts.proofs.Expanding.{absolute_stay}
use Rattle.def_contexts.proofs.laws.absolute_texts_stay.Goals as goal

pub returns : goal.returns
returns c = absolute_stay
