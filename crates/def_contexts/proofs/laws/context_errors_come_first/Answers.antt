use Rattle.def_contexts.proofs.Framed.{context_errors_come_first}
use Rattle.def_contexts.proofs.laws.context_errors_come_first.Goals as goal

pub returns : goal.returns
returns c = context_errors_come_first
