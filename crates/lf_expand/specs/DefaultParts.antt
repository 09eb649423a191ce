-- A default of one value.
use Rattle.std.specs.Prelude.{List, [], ◌∷◌, Option, Result, Ok}
use Rattle.lf_model.specs.declared.table.TermTable.{TermTable}
use Rattle.lf_model.specs.declared.table.TermDef.{TermDef}
use Rattle.lf_model.specs.declared.frame.DefaultValue.{DefaultValue}
use Rattle.lf_model.specs.declared.error.LdError.{LdError}
use Rattle.lf_model.specs.JsonData.{JsonValue}
use Rattle.def_contexts.specs.Outcomes.{◌>>=◌}
use Rattle.def_contexts.specs.Defaults.{default_of}

abbrev pub default_alone :
    TermTable → Option TermDef → JsonValue → Result (List DefaultValue) LdError
default_alone table term value = do
  only ← default_of table term value
  Ok (only ∷ [])
