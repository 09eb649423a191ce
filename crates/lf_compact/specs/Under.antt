-- A key and a term, as definitions see them.
use Rattle.std.specs.Prelude.{List, ℕ, Option}
use Rattle.std.specs.Option.{option_copied}
use Rattle.lf_model.specs.declared.table.TermDef.{TermDef}
use Rattle.lf_compact.specs.declared.key.Under.{Under}

abbrev pub under_data : Under → List ℕ × Option TermDef
under_data under = (under.key, option_copied under.term)
