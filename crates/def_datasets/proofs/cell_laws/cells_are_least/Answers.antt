use Rattle.def_datasets.proofs.CellProofs as laws
use Rattle.def_datasets.proofs.cell_laws.cells_are_least.Goals as goal

pub returns : goal.returns
returns c = laws.cells_are_least
