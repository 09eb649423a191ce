use Rattle.def_contexts.proofs.Tables.{table_terms_give}
use Rattle.def_contexts.proofs.laws.table_terms_give_their_iri.Goals as goal

pub returns : goal.returns
returns c = table_terms_give
