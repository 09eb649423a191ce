use Rattle.def_contexts.proofs.Tables.{vocab_is_absolute}
use Rattle.def_contexts.proofs.laws.vocab_is_absolute.Goals as goal

pub returns : goal.returns
returns c = vocab_is_absolute
