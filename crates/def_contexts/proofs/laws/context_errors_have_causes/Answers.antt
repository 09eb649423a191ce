use Rattle.def_contexts.proofs.Tables.{errors_have_causes}
use Rattle.def_contexts.proofs.laws.context_errors_have_causes.Goals as goal

pub returns : goal.returns
returns c = errors_have_causes
