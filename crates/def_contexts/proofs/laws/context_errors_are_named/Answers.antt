use Rattle.def_contexts.proofs.Tables.{errors_are_named}
use Rattle.def_contexts.proofs.laws.context_errors_are_named.Goals as goal

pub returns : goal.returns
returns c = errors_are_named
