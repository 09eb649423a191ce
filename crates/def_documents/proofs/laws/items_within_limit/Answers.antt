use Rattle.def_documents.proofs.Documents.{items-limit}
use Rattle.def_documents.proofs.laws.items_within_limit.Goals as goal

pub returns : goal.returns
returns c = items-limit
