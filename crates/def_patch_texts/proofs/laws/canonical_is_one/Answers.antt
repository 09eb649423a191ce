use Rattle.def_patch_texts.proofs.CanonicalLine.{canonical_is_one}
use Rattle.def_patch_texts.proofs.laws.canonical_is_one.Goals as goal

pub returns : goal.returns
returns c = canonical_is_one
