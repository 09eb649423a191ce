-- The parts of a value pattern (JSON-LD 1.1 Framing, section 4.1: value patterns).
use Rattle.std.specs.Prelude.{Option}
use Rattle.lf_model.specs.declared.table.TermTable.{TermTable}
use Rattle.lf_model.specs.declared.scalar.Scalar.{Scalar}
use Rattle.lf_model.specs.JsonData.{JsonValue}
use Rattle.def_contexts.specs.ValuePatterns.{scalar_of, datatype_of, language_scalar}
use Rattle.lf_expand.specs.declared.patterns.Part.{Part}
use Rattle.lf_expand.specs.declared.patterns.Part.TheVariants as part

-- how one value of a part is read
abbrev pub read_as : TermTable → Part → JsonValue → Option Scalar
read_as table part.Value = scalar_of
read_as table part.Datatype = datatype_of table
read_as table part.Language = language_scalar
