use Rattle.def_contexts.proofs.Framed.{frame_errors_have_causes}
use Rattle.def_contexts.proofs.laws.frame_errors_have_causes.Goals as goal

pub returns : goal.returns
returns c = frame_errors_have_causes
