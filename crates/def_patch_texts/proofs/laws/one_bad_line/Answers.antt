use Rattle.def_patch_texts.proofs.BadLines.{one_bad_line}
use Rattle.def_patch_texts.proofs.laws.one_bad_line.Goals as goal

pub returns : goal.returns
returns c = one_bad_line
