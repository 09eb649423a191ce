use Rattle.def_patch_texts.proofs.EachKind.{each_kind}
use Rattle.def_patch_texts.proofs.laws.each_kind.Goals as goal

pub returns : goal.returns
returns c = each_kind
