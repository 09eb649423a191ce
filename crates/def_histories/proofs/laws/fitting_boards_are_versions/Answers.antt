use Rattle.def_histories.proofs.JobProofs.{fitting_boards_are_versions}
use Rattle.def_histories.proofs.laws.fitting_boards_are_versions.Goals as goal

pub returns : goal.returns
returns c = fitting_boards_are_versions
