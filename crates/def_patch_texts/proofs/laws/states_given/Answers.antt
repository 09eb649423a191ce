use Rattle.def_patch_texts.proofs.StatesGiven.{states_given}
use Rattle.def_patch_texts.proofs.laws.states_given.Goals as goal

pub returns : goal.returns
returns c = states_given
