use Rattle.def_histories.proofs.JobProofs.{text_numbers_are_one}
use Rattle.def_histories.proofs.laws.text_numbers_are_one.Goals as goal

pub returns : goal.returns
returns c = text_numbers_are_one
