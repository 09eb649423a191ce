use Rattle.def_selection.proofs.Fits.{chosen-least}
use Rattle.def_selection.proofs.laws.chosen_is_least.Goals as goal

pub returns : goal.returns
returns c = chosen-least
