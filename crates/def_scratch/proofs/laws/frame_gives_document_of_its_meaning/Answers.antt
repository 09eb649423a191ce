use Rattle.def_scratch.proofs.Documents.{document_of_meaning}
use Rattle.def_scratch.proofs.laws.frame_gives_document_of_its_meaning.Goals as goal

pub returns : goal.returns
returns c = document_of_meaning
