use Rattle.def_documents.proofs.Removed.{node-gone}
use Rattle.def_documents.proofs.laws.pruning_removes_once.Goals as goal

pub returns : goal.returns
returns c = λ counts node label once. node-gone counts label once node
