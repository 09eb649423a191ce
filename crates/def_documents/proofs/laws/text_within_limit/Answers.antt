use Rattle.def_documents.proofs.Documents.{text-within}
use Rattle.def_documents.proofs.laws.text_within_limit.Goals as goal

pub returns : goal.returns
returns c = text-within
