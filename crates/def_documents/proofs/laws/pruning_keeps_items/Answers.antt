use Rattle.def_documents.proofs.Pruned.{items-kept}
use Rattle.def_documents.proofs.laws.pruning_keeps_items.Goals as goal

pub returns : goal.returns
returns c = items-kept
