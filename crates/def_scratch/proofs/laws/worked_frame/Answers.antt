use Rattle.def_scratch.proofs.FrameRow.{worked}
use Rattle.def_scratch.proofs.laws.worked_frame.Goals as goal

pub returns : goal.returns
returns c = worked
