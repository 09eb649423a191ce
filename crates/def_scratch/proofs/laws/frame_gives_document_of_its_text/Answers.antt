use Rattle.def_scratch.proofs.Documents.{document_of_text}
use Rattle.def_scratch.proofs.laws.frame_gives_document_of_its_text.Goals as goal

pub returns : goal.returns
returns c = document_of_text
