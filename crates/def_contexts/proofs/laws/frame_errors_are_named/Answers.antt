use Rattle.def_contexts.proofs.Framed.{frame_errors_are_named}
use Rattle.def_contexts.proofs.laws.frame_errors_are_named.Goals as goal

pub returns : goal.returns
returns c = frame_errors_are_named
