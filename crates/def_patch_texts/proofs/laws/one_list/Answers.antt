use Rattle.def_patch_texts.proofs.Lines.{one_list}
use Rattle.def_patch_texts.proofs.laws.one_list.Goals as goal

pub returns : goal.returns
returns c = one_list
