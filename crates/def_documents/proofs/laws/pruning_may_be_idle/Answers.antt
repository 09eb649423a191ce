use Rattle.def_documents.proofs.Pruned.{node-same}
use Rattle.def_documents.proofs.laws.pruning_may_be_idle.Goals as goal

pub returns : goal.returns
returns c = λ counts node never. node-same counts never node
