use Rattle.def_histories.proofs.TextProofs.{patch_texts_in_any_order}
use Rattle.def_histories.proofs.laws.patch_texts_in_any_order.Goals as goal

pub returns : goal.returns
returns c = patch_texts_in_any_order
