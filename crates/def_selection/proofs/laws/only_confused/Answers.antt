use Rattle.def_selection.proofs.Shortened.{only-confused}
use Rattle.def_selection.proofs.laws.only_confused.Goals as goal

pub returns : goal.returns
returns c = only-confused
