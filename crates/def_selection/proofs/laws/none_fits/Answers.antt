use Rattle.def_selection.proofs.Fits.{none-fits}
use Rattle.def_selection.proofs.laws.none_fits.Goals as goal

pub returns : goal.returns
returns c = none-fits
