use Rattle.def_selection.proofs.Fits.{chosen-fits}
use Rattle.def_selection.proofs.laws.chosen_fits.Goals as goal

pub returns : goal.returns
returns c = chosen-fits
