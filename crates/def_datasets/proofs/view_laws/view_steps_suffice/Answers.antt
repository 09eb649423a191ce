use Rattle.def_datasets.proofs.ViewProofs as laws
use Rattle.def_datasets.proofs.view_laws.view_steps_suffice.Goals as goal

pub returns : goal.returns
returns c = laws.view_steps_suffice
