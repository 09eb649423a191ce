use Rattle.def_scratch.proofs.Documents.{document_of_outcomes}
use Rattle.def_scratch.proofs.laws.outcomes_give_the_document.Goals as goal

pub returns : goal.returns
returns c = document_of_outcomes
