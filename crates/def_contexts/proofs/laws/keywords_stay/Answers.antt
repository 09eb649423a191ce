use Rattle.def_contexts.proofs.Expanding.{keywords_stay}
use Rattle.def_contexts.proofs.laws.keywords_stay.Goals as goal

pub returns : goal.returns
returns c = keywords_stay
