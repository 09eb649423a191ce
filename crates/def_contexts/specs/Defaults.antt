-- The values of `@default` (JSON-LD 1.1 Framing, section 4.1: default objects).
use Rattle.std.specs.Prelude.{List, [], ◌∷◌, ℕ, Bool, true, false, not, ◌&&◌, if◌then◌else◌, Option, Some, None, Result, Ok, Err, codes}
use Rattle.lf_rdf.specs.declared.term.Term.{Term}
use Rattle.lf_rdf.specs.Equality.{text_eq}
use Rattle.lf_model.specs.declared.table.TermTable.{TermTable}
use Rattle.lf_model.specs.declared.table.TermDef.{TermDef}
use Rattle.lf_model.specs.declared.scalar.Scalar.{Scalar}
use Rattle.lf_model.specs.declared.scalar.Scalar.TheVariants as scalar
use Rattle.lf_model.specs.declared.frame.DefaultValue.{DefaultValue}
use Rattle.lf_model.specs.declared.frame.DefaultValue.TheVariants as default
use Rattle.lf_model.specs.declared.error.LdError.{LdError}
use Rattle.lf_model.specs.declared.error.LdError.TheVariants.{InvalidFrame}
use Rattle.lf_model.specs.JsonData.{JsonValue, JsonItems, JsonMembers, null, truth, whole, fraction, text, array, object, no_items, item}
use Rattle.def_contexts.specs.Texts.{is_absolute, lower}
use Rattle.def_contexts.specs.Keywords.{one_of}
use Rattle.def_contexts.specs.Expansion.{expand}
use Rattle.def_contexts.specs.Outcomes.{◌>>=◌, refuse}
use Rattle.def_contexts.specs.Members.{value_of, has_key, all_keys, only_value}
use Rattle.def_contexts.specs.NodeTests.{node_named}
use Rattle.def_contexts.specs.GivenValues.{Given, reference, plain_value, given}
use Rattle.def_contexts.specs.ValuePatterns.{scalar_of}

abbrev pub default_given : Given → DefaultValue
default_given (reference node) = default.Ref node
default_given (plain_value s datatype language) = default.Scalar s datatype language

abbrev pub default_scalar : TermTable → Option TermDef → Scalar → Result DefaultValue LdError
default_scalar table term s = do
  g ← given table term s
  Ok (default_given g)

-- a text is null where it is `@null`
abbrev pub default_text : TermTable → Option TermDef → List ℕ → Result DefaultValue LdError
default_text table term t =
    if text_eq t (codes "@null") then Ok default.Null else default_scalar table term (scalar.Text t)

abbrev pub referenced : Option Term → Result DefaultValue LdError
referenced (Some node) = Ok (default.Ref node)
referenced None = Err InvalidFrame

-- `{"@id": text}`
abbrev pub default_reference : TermTable → Option JsonValue → Result DefaultValue LdError
default_reference table (Some (text id)) = referenced (node_named table false id)
default_reference table _ = Err InvalidFrame

abbrev pub datatype_expanded : Option (List ℕ) → Result (Option (List ℕ)) LdError
datatype_expanded (Some iri) = if is_absolute iri then Ok (Some iri) else Err InvalidFrame
datatype_expanded None = Err InvalidFrame

abbrev pub default_datatype : TermTable → Option JsonValue → Result (Option (List ℕ)) LdError
default_datatype table None = Ok None
default_datatype table (Some (text name)) = datatype_expanded (expand table name true)
default_datatype table (Some _) = Err InvalidFrame

abbrev pub default_language : Option JsonValue → Result (Option (List ℕ)) LdError
default_language None = Ok None
default_language (Some (text language)) = Ok (Some (lower language))
default_language (Some _) = Err InvalidFrame

abbrev pub some_scalar : Option Scalar → Result Scalar LdError
some_scalar (Some s) = Ok s
some_scalar None = Err InvalidFrame

abbrev pub default_value_scalar : Option JsonValue → Result Scalar LdError
default_value_scalar (Some value) = some_scalar (scalar_of value)
default_value_scalar None = Err InvalidFrame

abbrev pub is_default_key : List ℕ → Bool
is_default_key = one_of (codes "@value" ∷ codes "@type" ∷ codes "@language" ∷ [])

-- `@value` and at most one of `@type` and `@language`
abbrev pub default_value : TermTable → JsonMembers → Result DefaultValue LdError
default_value table members = do
  _ ← refuse (not (all_keys is_default_key members)) InvalidFrame
  _ ← refuse (has_key (codes "@type") members && has_key (codes "@language") members) InvalidFrame
  s ← default_value_scalar (value_of (codes "@value") members)
  datatype ← default_datatype table (value_of (codes "@type") members)
  language ← default_language (value_of (codes "@language") members)
  Ok (default.Scalar s datatype language)

abbrev pub default_map : TermTable → JsonMembers → Result DefaultValue LdError
default_map table members =
    if has_key (codes "@id") members then default_reference table (only_value (codes "@id") members)
    else default_value table members

-- one value of a default
abbrev pub default_of : TermTable → Option TermDef → JsonValue → Result DefaultValue LdError
default_of table term null = Ok default.Null
default_of table term (text t) = default_text table term t
default_of table term (whole n) = default_scalar table term (scalar.Whole n)
default_of table term (truth b) = default_scalar table term (scalar.Bool b)
default_of table term (object members) = default_map table members
default_of table term (array items) = Err InvalidFrame
default_of table term fraction = Err InvalidFrame

abbrev pub defaults_of_items :
    TermTable → Option TermDef → JsonItems → Result (List DefaultValue) LdError
defaults_of_items table term no_items = Ok []
defaults_of_items table term (item value rest) = do
  first ← default_of table term value
  others ← defaults_of_items table term rest
  Ok (first ∷ others)

-- `@default`: one value or an array of values
unfoldable pub defaults_of :
    TermTable → Option TermDef → JsonValue → Result (List DefaultValue) LdError
defaults_of table term (array items) = defaults_of_items table term items
defaults_of table term value = do
  only ← default_of table term value
  Ok (only ∷ [])
