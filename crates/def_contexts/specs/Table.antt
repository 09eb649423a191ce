-- The term table of a context (JSON-LD 1.1 Processing Algorithms and API, section 4.1).
use Rattle.std.specs.Prelude.{List, [], ◌∷◌, ℕ, Bool, true, false, ◌||◌, if◌then◌else◌, Option, Some, None, Result, Ok, Err, codes}
use Rattle.lf_model.specs.declared.table.TermTable.{TermTable}
use Rattle.lf_model.specs.declared.error.LdError.{LdError}
use Rattle.lf_model.specs.declared.error.LdError.TheVariants.{InvalidVersionValue, InvalidLocalContext, InvalidVocabMapping, InvalidDefaultLanguage, LoadingRemoteContextFailed}
use Rattle.lf_model.specs.JsonData.{JsonValue, JsonItems, JsonMembers, null, truth, whole, fraction, text, array, object, no_items, item, no_members, member}
use Rattle.def_contexts.specs.Texts.{is_absolute}
use Rattle.def_contexts.specs.Keywords.{one_of}
use Rattle.def_contexts.specs.Expansion.{expand}
use Rattle.def_contexts.specs.Outcomes.{◌>>=◌, refuse}
use Rattle.def_contexts.specs.Members.{value_of, has_key}
use Rattle.def_contexts.specs.TermParts.{language_given}
use Rattle.def_contexts.specs.Defining.{Entry, define_terms}

-- the keys of a context that are no terms
abbrev pub is_context_key : List ℕ → Bool
is_context_key =
    one_of (codes "@base" ∷ codes "@direction" ∷ codes "@import" ∷ codes "@language" ∷ codes "@propagate"
    ∷ codes "@protected" ∷ codes "@version" ∷ codes "@vocab" ∷ [])

abbrev pub terms_of : JsonMembers → List Entry
terms_of no_members = []
terms_of (member key value rest) =
    if is_context_key key then terms_of rest
    else record { name = key; value = value } ∷ terms_of rest

-- `@version` is a fraction
abbrev pub is_bad_version : Option JsonValue → Bool
is_bad_version None = false
is_bad_version (Some fraction) = false
is_bad_version (Some _) = true

-- `@base` is null
abbrev pub is_bad_base : Option JsonValue → Bool
is_bad_base None = false
is_bad_base (Some null) = false
is_bad_base (Some _) = true

-- the keys of a context that are refused by name
abbrev pub has_refused_key : JsonMembers → Bool
has_refused_key members =
    is_bad_base (value_of (codes "@base") members) || has_key (codes "@direction") members
    || has_key (codes "@import") members || has_key (codes "@propagate") members
    || has_key (codes "@protected") members

abbrev pub vocab_expanded : Option (List ℕ) → Result (Option (List ℕ)) LdError
vocab_expanded (Some iri) = if is_absolute iri then Ok (Some iri) else Err InvalidVocabMapping
vocab_expanded None = Err InvalidVocabMapping

-- the vocabulary mapping after a context, by the table before it
abbrev pub vocab_of : TermTable → Option JsonValue → Result (Option (List ℕ)) LdError
vocab_of table None = Ok table.vocab
vocab_of table (Some null) = Ok None
vocab_of table (Some (text name)) = vocab_expanded (expand table name true)
vocab_of table (Some _) = Err InvalidVocabMapping

-- the default language after a context
abbrev pub default_language_of : TermTable → Option JsonValue → Result (Option (List ℕ)) LdError
default_language_of table None = Ok table.language
default_language_of table (Some value) = language_given InvalidDefaultLanguage value

-- a map of a context over the table before it
unfoldable pub map_table : JsonMembers → TermTable → Result TermTable LdError
map_table members table = do
  _ ← refuse (is_bad_version (value_of (codes "@version") members)) InvalidVersionValue
  _ ← refuse (has_refused_key members) InvalidLocalContext
  vocab ← vocab_of table (value_of (codes "@vocab") members)
  language ← default_language_of table (value_of (codes "@language") members)
  draft ← define_terms (terms_of members) (record table { vocab = vocab; language = language })
  Ok draft.table

abbrev pub empty_table : TermTable
empty_table = record { vocab = None; language = None; terms = []; type_set = false }

-- a context over the table before it: null empties the table, and an array is read element by
-- element
abbrev mutual
  pub table_after : JsonValue → TermTable → Result TermTable LdError
  table_after null table = Ok empty_table
  table_after (text url) table = Err LoadingRemoteContextFailed
  table_after (array items) table = items_after items table
  table_after (object members) table = map_table members table
  table_after (truth b) table = Err InvalidLocalContext
  table_after (whole n) table = Err InvalidLocalContext
  table_after fraction table = Err InvalidLocalContext

  pub items_after : JsonItems → TermTable → Result TermTable LdError
  items_after no_items table = Ok table
  items_after (item value rest) table = do
    next ← table_after value table
    items_after rest next

-- the term table of a context, or its error
unfoldable pub table_of : JsonValue → Result TermTable LdError
table_of context = table_after context empty_table
