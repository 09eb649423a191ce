use Rattle.def_contexts.proofs.Tables.{terms_are_sound}
use Rattle.def_contexts.proofs.laws.terms_are_sound.Goals as goal

pub returns : goal.returns
returns c = terms_are_sound
