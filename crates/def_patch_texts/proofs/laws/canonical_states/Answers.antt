use Rattle.def_patch_texts.proofs.CanonicalLine.{canonical_states}
use Rattle.def_patch_texts.proofs.laws.canonical_states.Goals as goal

pub returns : goal.returns
returns c = canonical_states
