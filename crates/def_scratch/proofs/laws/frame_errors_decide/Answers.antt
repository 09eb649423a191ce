use Rattle.def_scratch.proofs.Documents.{errors_decide}
use Rattle.def_scratch.proofs.laws.frame_errors_decide.Goals as goal

pub returns : goal.returns
returns c = errors_decide
