use Rattle.def_documents.proofs.Pruned.{counts-append}
use Rattle.def_documents.proofs.laws.counts_add_up.Goals as goal

pub returns : goal.returns
returns c = counts-append
