use Rattle.def_documents.proofs.Pruned.{node-kept}
use Rattle.def_documents.proofs.laws.pruning_keeps_others.Goals as goal

pub returns : goal.returns
returns c = λ counts node label others. node-kept counts label others node
