use Rattle.std.proofs.Common.{◌++◌, ap, sym, ◌∙◌}
use Rattle.std.specs.Prelude.{option_map}
use Rattle.lf_model.specs.JsonBridge.{json_data}
use Rattle.lf_model.proofs.JsonLemmas.{json_data-Map}
use Rattle.def_documents.specs.Document.{entries_in}
use Rattle.def_documents.specs.Grouping.{object_of}
use Rattle.lf_doc.specs.Entries.{entry_of}
use Rattle.lf_doc.proofs.top.one_map.Goals as goal

pub returns-in-None : goal.returns-in-None
returns-in-None c =
    json_data-Map c.members_in-members.result
    ∙ c.is_object.ensures
    ∙ ap object_of c.members_in-members.ensures
    ∙ ap (λ o. object_of (entry_of (option_map json_data o) ++ entries_in (json_data c.args.map))) (sym c.in-None.is)
