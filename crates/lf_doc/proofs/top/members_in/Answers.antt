use Rattle.std.proofs.Common.{◌∙◌, ap, sym}
use Rattle.lf_model.specs.JsonBridge.{json_data}
use Rattle.lf_model.proofs.JsonLemmas.{json_data-Map}
use Rattle.def_documents.specs.Document.{entries_in}
use Rattle.lf_doc.proofs.top.members_in.Goals as goal

pub returns-in-Map : goal.returns-in-Map
returns-in-Map c = ap entries_in (sym (ap json_data c.in-Map.is ∙ json_data-Map c.in-Map.members))
