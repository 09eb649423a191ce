-- Value patterns (JSON-LD 1.1 Framing, section 4.1: value patterns).
use Rattle.std.specs.Prelude.{List, [], ◌∷◌, ℕ, true, if◌then◌else◌, Option, Some, None, Result, Ok, Err}
use Rattle.lf_model.specs.declared.table.TermTable.{TermTable}
use Rattle.lf_model.specs.declared.scalar.Scalar.{Scalar}
use Rattle.lf_model.specs.declared.scalar.Scalar.TheVariants as scalar
use Rattle.lf_model.specs.declared.frame.PartTest.{PartTest}
use Rattle.lf_model.specs.declared.frame.PartTest.TheVariants as part
use Rattle.lf_model.specs.declared.frame.ValuePattern.{ValuePattern}
use Rattle.lf_model.specs.declared.error.LdError.{LdError}
use Rattle.lf_model.specs.declared.error.LdError.TheVariants.{InvalidValueObject}
use Rattle.lf_model.specs.JsonData.{JsonValue, JsonItems, truth, whole, text, array, no_items, item}
use Rattle.def_contexts.specs.Texts.{is_absolute, lower}
use Rattle.def_contexts.specs.Expansion.{expand}
use Rattle.def_contexts.specs.NodeTests.{is_any, is_never}

-- a text, number or truth value
abbrev pub scalar_of : JsonValue → Option Scalar
scalar_of (text t) = Some (scalar.Text t)
scalar_of (whole n) = Some (scalar.Whole n)
scalar_of (truth b) = Some (scalar.Bool b)
scalar_of _ = None

abbrev pub absolute_scalar : Option (List ℕ) → Option Scalar
absolute_scalar (Some iri) = if is_absolute iri then Some (scalar.Text iri) else None
absolute_scalar None = None

-- the absolute IRI of a datatype
abbrev pub datatype_of : TermTable → JsonValue → Option Scalar
datatype_of table (text name) = absolute_scalar (expand table name true)
datatype_of table _ = None

-- a language in small letters
abbrev pub language_scalar : JsonValue → Option Scalar
language_scalar (text language) = Some (scalar.Text (lower language))
language_scalar _ = None

abbrev pub cons_scalar : Option Scalar → Option (List Scalar) → Option (List Scalar)
cons_scalar (Some s) (Some rest) = Some (s ∷ rest)
cons_scalar (Some s) None = None
cons_scalar None rest = None

abbrev pub scalars_of_items : (JsonValue → Option Scalar) → JsonItems → Option (List Scalar)
scalars_of_items read no_items = Some []
scalars_of_items read (item value rest) = cons_scalar (read value) (scalars_of_items read rest)

-- one value or an array of values, each as it is read
abbrev pub scalars_of : (JsonValue → Option Scalar) → JsonValue → Option (List Scalar)
scalars_of read (array items) = scalars_of_items read items
scalars_of read value = cons_scalar (read value) (Some [])

abbrev pub part_list : Option (List Scalar) → Result PartTest LdError
part_list (Some scalars) = Ok (part.OneOf scalars)
part_list None = Err InvalidValueObject

-- a part of a value pattern: any, never, or a list of what its values are read as
abbrev pub part_of : (JsonValue → Option Scalar) → JsonValue → Result PartTest LdError
part_of read value =
    if is_any value then Ok part.Any
    else if is_never value then Ok part.Never
    else part_list (scalars_of read value)

-- the pattern without parts
abbrev pub no_pattern : ValuePattern
no_pattern = record { value = part.Absent; datatype = part.Absent; language = part.Absent }

-- the one text of a part, where there is one
abbrev pub one_text : Option (List ℕ) → PartTest
one_text (Some t) = part.OneOf (scalar.Text t ∷ [])
one_text None = part.Absent

-- the pattern of one scalar with its datatype and its language
abbrev pub pattern_of : Scalar → Option (List ℕ) → Option (List ℕ) → ValuePattern
pattern_of s datatype language =
    record
    { value = part.OneOf (s ∷ []); datatype = one_text datatype; language = one_text language }
