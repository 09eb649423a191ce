use Rattle.def_patch_texts.proofs.BadLines.{never_both}
use Rattle.def_patch_texts.proofs.laws.never_both.Goals as goal

pub returns : goal.returns
returns c = never_both
