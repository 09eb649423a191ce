use Rattle.def_datasets.proofs.PointingProofs.{pointing_in_order}
use Rattle.def_datasets.proofs.view_laws.pointing_in_order.Goals as goal

pub returns : goal.returns
returns c = pointing_in_order
