use Rattle.def_documents.proofs.Documents.{first-excess}
use Rattle.def_documents.proofs.laws.first_excess_decides.Goals as goal

pub returns : goal.returns
returns c = first-excess
