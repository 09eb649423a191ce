use Rattle.def_patch_texts.proofs.BadCases.{too_long_is_bad}
use Rattle.def_patch_texts.proofs.laws.long_line_is_bad.Goals as goal

pub returns : goal.returns
returns c = too_long_is_bad
