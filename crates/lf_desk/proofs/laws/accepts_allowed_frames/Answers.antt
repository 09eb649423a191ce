use Rattle.lf_desk.proofs.FrameAnswers.{accepts_allowed_frames}
use Rattle.lf_desk.proofs.laws.accepts_allowed_frames.Goals as goal

pub returns : goal.returns
returns c = accepts_allowed_frames
