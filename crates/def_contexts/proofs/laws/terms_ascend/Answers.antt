use Rattle.def_contexts.proofs.Tables.{terms_ascend}
use Rattle.def_contexts.proofs.laws.terms_ascend.Goals as goal

pub returns : goal.returns
returns c = terms_ascend
