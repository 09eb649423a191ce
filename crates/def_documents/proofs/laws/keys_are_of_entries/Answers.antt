use Rattle.def_documents.proofs.Keys.{keys-entries}
use Rattle.def_documents.proofs.laws.keys_are_of_entries.Goals as goal

pub returns : goal.returns
returns c = keys-entries
