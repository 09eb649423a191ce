use Rattle.lf_frames.proofs.Accepting.{accepts_frames}
use Rattle.lf_frames.proofs.laws.accepts_frames.Goals as goal

pub returns : goal.returns
returns c = accepts_frames
