-- Value objects, as definitions see them.
use Rattle.lf_model.specs.JsonBridge.{json_data}
use Rattle.def_documents.specs.Picks as picks
use Rattle.lf_compact.specs.declared.values.Plain.{Plain}

abbrev pub plain_data : Plain → picks.Plain
plain_data plain =
    record { scalar = json_data plain.scalar; datatype = plain.datatype; language = plain.language }
