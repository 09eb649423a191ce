-- A text, number or truth value of a frame, by the term under which it stands
-- (JSON-LD 1.1 Processing Algorithms and API, section 5.3: value expansion).
use Rattle.std.specs.Prelude.{List, ℕ, true, false, if◌then◌else◌, Option, Some, None, Result, Ok, Err, codes}
use Rattle.lf_rdf.specs.declared.term.Term.{Term}
use Rattle.lf_rdf.specs.Equality.{text_eq}
use Rattle.lf_model.specs.declared.table.TermTable.{TermTable}
use Rattle.lf_model.specs.declared.table.TermDef.{TermDef}
use Rattle.lf_model.specs.declared.scalar.Scalar.{Scalar}
use Rattle.lf_model.specs.declared.scalar.Scalar.TheVariants as scalar
use Rattle.lf_model.specs.declared.error.LdError.{LdError}
use Rattle.lf_model.specs.declared.error.LdError.TheVariants.{InvalidIdValue}
use Rattle.def_contexts.specs.NodeTests.{node_named}

-- what a type mapping makes of a value
pub data Coercion : Type 0 where
  to_id : Coercion
  to_vocab : Coercion
  to_datatype : List ℕ → Coercion
  uncoerced : Coercion

abbrev pub coercion_named : Option (List ℕ) → Coercion
coercion_named None = uncoerced
coercion_named (Some name) =
    if text_eq name (codes "@id") then to_id
    else if text_eq name (codes "@vocab") then to_vocab
    else if text_eq name (codes "@none") then uncoerced
    else to_datatype name

abbrev pub coercion_of : Option TermDef → Coercion
coercion_of (Some d) = coercion_named d.coercion
coercion_of None = uncoerced

abbrev pub language_or : Option (Option (List ℕ)) → Option (List ℕ) → Option (List ℕ)
language_or (Some own) language = own
language_or None language = language

-- the language of a text: the term's, or else the default language
abbrev pub language_under : TermTable → Option TermDef → Option (List ℕ)
language_under table (Some d) = language_or d.language table.language
language_under table None = table.language

-- a reference to a node, or a scalar with its datatype or its language
pub data Given : Type 0 where
  reference : Term → Given
  plain_value : Scalar → Option (List ℕ) → Option (List ℕ) → Given

abbrev pub reference_or_refused : Option Term → Result Given LdError
reference_or_refused (Some node) = Ok (reference node)
reference_or_refused None = Err InvalidIdValue

abbrev pub text_coerced : Coercion → TermTable → Option TermDef → List ℕ → Result Given LdError
text_coerced to_id table term text = reference_or_refused (node_named table false text)
text_coerced to_vocab table term text = reference_or_refused (node_named table true text)
text_coerced (to_datatype iri) table term text = Ok (plain_value (scalar.Text text) (Some iri) None)
text_coerced uncoerced table term text =
    Ok (plain_value (scalar.Text text) None (language_under table term))

abbrev pub other_coerced : Coercion → Scalar → Given
other_coerced (to_datatype iri) s = plain_value s (Some iri) None
other_coerced _ s = plain_value s None None

-- what a scalar stands for under a term
unfoldable pub given : TermTable → Option TermDef → Scalar → Result Given LdError
given table term (scalar.Text text) = text_coerced (coercion_of term) table term text
given table term (scalar.Whole n) = Ok (other_coerced (coercion_of term) (scalar.Whole n))
given table term (scalar.Bool b) = Ok (other_coerced (coercion_of term) (scalar.Bool b))
