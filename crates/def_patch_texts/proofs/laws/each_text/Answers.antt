use Rattle.def_patch_texts.proofs.EachText.{each_text}
use Rattle.def_patch_texts.proofs.laws.each_text.Goals as goal

pub returns : goal.returns
returns c = each_text
