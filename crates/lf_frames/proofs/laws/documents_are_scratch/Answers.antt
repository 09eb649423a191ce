use Rattle.lf_frames.proofs.Accepting.{documents_are_scratch}
use Rattle.lf_frames.proofs.laws.documents_are_scratch.Goals as goal

pub returns : goal.returns
returns c = documents_are_scratch
