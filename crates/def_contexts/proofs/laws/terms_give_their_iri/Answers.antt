use Rattle.def_contexts.proofs.Expanding.{terms_give}
use Rattle.def_contexts.proofs.laws.terms_give_their_iri.Goals as goal

pub returns : goal.returns
returns c = terms_give
