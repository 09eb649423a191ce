use Rattle.def_scratch.proofs.Documents.{same_document}
use Rattle.def_scratch.proofs.laws.same_views_same_document.Goals as goal

pub returns : goal.returns
returns c = same_document
