-- Compaction of values (JSON-LD 1.1 Processing Algorithms and API, section 6.1.2: value
-- compaction).
use Rattle.std.specs.Prelude.{List, [], ◌∷◌, ◌++◌, ℕ, Bool, true, false, not, ◌&&◌, ◌||◌, Option, Some, None, if◌then◌else◌, is_some}
use Rattle.lf_rdf.specs.declared.term.Term.{Term}
use Rattle.lf_rdf.specs.Equality.{text_eq, option_eq}
use Rattle.lf_model.specs.declared.table.TermTable.{TermTable}
use Rattle.lf_model.specs.declared.table.TermDef.{TermDef}
use Rattle.lf_model.specs.JsonData.{JsonValue, text}
use Rattle.def_selection.specs.Keywords.{at_id, at_language, at_none, at_type, at_value, at_vocab}
use Rattle.def_selection.specs.Iris.{no_value, short, short_keyword, short_node}
use Rattle.def_documents.specs.Trying.{◌>>=◌}
use Rattle.def_documents.specs.Picks.{Plain}
use Rattle.def_documents.specs.Grouping.{object_of}

-- the coercion of the chosen term, if there is a term and it has one
abbrev pub coercion_of : Option TermDef → Option (List ℕ)
coercion_of None = None
coercion_of (Some term) = term.coercion

-- the coercion is this keyword
abbrev pub coerces_to : List ℕ → Option TermDef → Bool
coerces_to keyword term = option_eq text_eq (coercion_of term) (Some keyword)

-- the language that a text has without saying so: the term's, else the table's; null is none
abbrev pub own_or_default : Option (List ℕ) → Option (Option (List ℕ)) → Option (List ℕ)
own_or_default default None = default
own_or_default default (Some language) = language

abbrev pub language_under : TermTable → Option TermDef → Option (List ℕ)
language_under table None = table.language
language_under table (Some term) = own_or_default table.language term.language

-- a datatype that is the coercion
abbrev pub is_coerced : Option TermDef → Option (List ℕ) → Bool
is_coerced term None = false
is_coerced term (Some datatype) = coerces_to datatype term

abbrev pub is_text : JsonValue → Bool
is_text (text characters) = true
is_text _ = false

-- an entry of a datatype, where there is one
abbrev pub datatype_entry : TermTable → Option (List ℕ) → Option (List (List ℕ × JsonValue))
datatype_entry table None = Some []
datatype_entry table (Some datatype) = do
  compacted ← short table datatype true no_value
  Some ((short_keyword table at_type, text compacted) ∷ [])

-- an entry of a language, where there is one
abbrev pub language_entry : TermTable → Option (List ℕ) → List (List ℕ × JsonValue)
language_entry table None = []
language_entry table (Some language) = (short_keyword table at_language, text language) ∷ []

-- a map of `@value` and, where there are, `@type` and `@language`
abbrev pub value_object : TermTable → Plain → Option JsonValue
value_object table plain = do
  type_part ← datatype_entry table plain.datatype
  Some (object_of ((short_keyword table at_value, plain.scalar) ∷ type_part
      ++ language_entry table plain.language))

-- the value is written as its scalar alone
abbrev pub is_bare : TermTable → Option TermDef → Plain → Bool
is_bare table term plain =
    is_coerced term plain.datatype
    || not (coerces_to at_none term) && not (is_some plain.datatype)
    && (not (is_text plain.scalar) || option_eq text_eq plain.language (language_under table term))

-- a literal or scalar under a chosen term, or none
abbrev pub plain_json : TermTable → Option TermDef → Plain → Option JsonValue
plain_json table term plain =
    if is_bare table term plain then Some plain.scalar else value_object table plain

-- a compacted id under the coercion `@id` or `@vocab`, and otherwise a map of it
abbrev pub reference_value : TermTable → Option TermDef → List ℕ → JsonValue
reference_value table term compacted =
    if coerces_to at_id term || coerces_to at_vocab term then text compacted
    else object_of ((short_keyword table at_id, text compacted) ∷ [])

-- a node that has an id alone: with the coercion `@id` or `@vocab` its compacted id, otherwise a
-- map
abbrev pub reference_json : TermTable → Option TermDef → Term → Option JsonValue
reference_json table term id = do
  compacted ← short_node table (coerces_to at_vocab term) id
  Some (reference_value table term compacted)
