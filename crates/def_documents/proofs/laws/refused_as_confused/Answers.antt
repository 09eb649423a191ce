use Rattle.def_documents.proofs.Documents.{refused-confused}
use Rattle.def_documents.proofs.laws.refused_as_confused.Goals as goal

pub returns : goal.returns
returns c = refused-confused
