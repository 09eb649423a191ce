use Rattle.def_contexts.proofs.Framed.{frame_terms_are_its_contexts}
use Rattle.def_contexts.proofs.laws.frame_terms_are_its_contexts.Goals as goal

pub returns : goal.returns
returns c = frame_terms_are_its_contexts
