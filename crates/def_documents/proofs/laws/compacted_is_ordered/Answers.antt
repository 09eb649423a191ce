use Rattle.def_documents.proofs.OrderedNodes.{compact-ordered}
use Rattle.def_documents.proofs.laws.compacted_is_ordered.Goals as goal

pub returns : goal.returns
returns c = compact-ordered
