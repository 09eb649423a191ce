use Rattle.def_documents.proofs.Documents.{limit-decides}
use Rattle.def_documents.proofs.laws.first_limit_decides.Goals as goal

pub returns : goal.returns
returns c = limit-decides 0
