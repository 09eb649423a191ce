use Rattle.def_patch_texts.proofs.TakesLine.{line_read}
use Rattle.def_patch_texts.proofs.laws.line_read.Goals as goal

pub returns : goal.returns
returns c = line_read
