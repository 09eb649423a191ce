use Rattle.lf_frames.proofs.Accepting.{read_frames_give_documents}
use Rattle.lf_frames.proofs.laws.read_frames_give_documents.Goals as goal

pub returns : goal.returns
returns c = read_frames_give_documents
