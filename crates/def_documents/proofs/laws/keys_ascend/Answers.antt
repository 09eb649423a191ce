use Rattle.def_documents.proofs.Keys.{keys-ascend}
use Rattle.def_documents.proofs.laws.keys_ascend.Goals as goal

pub returns : goal.returns
returns c = keys-ascend
