-- What must stand in a context for an error to come from it
-- (JSON-LD 1.1 Processing Algorithms and API, section 9.6: the conditions of the error codes).
use Rattle.std.specs.Prelude.{◌≡◌, List, [], ◌∷◌, ℕ, Bool, true, false, not, ◌&&◌, ◌||◌, if◌then◌else◌, Option, Some, None, is_none, Err, IsTrue, codes}
use Rattle.std.specs.List.{list_any}
use Rattle.lf_model.specs.declared.table.Container.{Container}
use Rattle.lf_model.specs.declared.table.Container.TheVariants.{Set}
use Rattle.lf_model.specs.declared.error.LdError.{LdError}
use Rattle.lf_model.specs.declared.error.LdError.TheVariants as ld
use Rattle.lf_model.specs.JsonData.{JsonValue, JsonItems, JsonMembers, null, truth, whole, fraction, text, array, object, no_items, item, no_members, member}
use Rattle.lf_rdf.specs.Equality.{text_eq}
use Rattle.def_contexts.specs.Texts.{is_empty}
use Rattle.def_contexts.specs.Keywords.{is_keyword, has_keyword_form, one_of}
use Rattle.def_contexts.specs.Members.{value_of, has_key, all_keys}
use Rattle.def_contexts.specs.TermParts.{container_given, has_colon_or_slash}
use Rattle.def_contexts.specs.Mappings.{must_expand}
use Rattle.def_contexts.specs.Terms.{is_definition_key}
use Rattle.def_contexts.specs.Table.{terms_of, is_bad_version, has_refused_key, table_of}
use Rattle.def_contexts.specs.Defining.{Entry, sets_type}
use Rattle.def_contexts.specs.TableLaws.{is_term_name}

-- a value that is no container
abbrev pub is_bad_container : Option JsonValue → Bool
is_bad_container (Some value) = is_none (container_given value)
is_bad_container None = false

abbrev pub is_set : Option Container → Bool
is_set (Some Set) = true
is_set _ = false

-- a value that is neither `@set` nor null
abbrev pub is_bad_reverse_container : Option JsonValue → Bool
is_bad_reverse_container None = false
is_bad_reverse_container (Some null) = false
is_bad_reverse_container (Some value) = not (is_set (container_given value))

-- a value that is neither null nor a text
abbrev pub is_bad_language : Option JsonValue → Bool
is_bad_language None = false
is_bad_language (Some null) = false
is_bad_language (Some (text language)) = false
is_bad_language (Some _) = true

-- a value that is neither true nor false
abbrev pub is_bad_prefix : Option JsonValue → Bool
is_bad_prefix None = false
is_bad_prefix (Some (truth b)) = false
is_bad_prefix (Some _) = true

-- the words that a type mapping may be
abbrev pub is_type_word : List ℕ → Bool
is_type_word = one_of (codes "@id" ∷ codes "@vocab" ∷ codes "@none" ∷ [])

-- a value that is none of these words
abbrev pub is_bad_type : Option JsonValue → Bool
is_bad_type None = false
is_bad_type (Some (text name)) = not (is_type_word name)
is_bad_type (Some _) = true

abbrev pub is_null : Option JsonValue → Bool
is_null (Some null) = true
is_null _ = false

abbrev pub is_text : Option JsonValue → Bool
is_text (Some (text t)) = true
is_text _ = false

-- a key that no term definition has
abbrev pub has_other_key : JsonMembers → Bool
has_other_key members = not (all_keys is_definition_key members)

-- the map of a term that is no reverse property
abbrev pub is_forward : JsonMembers → Bool
is_forward members = not (has_key (codes "@reverse") members)

-- `@prefix` where it can't stand: on a compact IRI or a path; true can't stand on a keyword
abbrev pub is_misplaced_prefix : List ℕ → Option JsonValue → Bool
is_misplaced_prefix name None = false
is_misplaced_prefix name (Some (truth b)) = b || has_colon_or_slash name
is_misplaced_prefix name (Some _) = has_colon_or_slash name

-- an id that may give no IRI: no text, the term itself, or another text than a keyword, unless the
-- term must expand to it
abbrev pub is_open_id : List ℕ → Option JsonValue → Bool
is_open_id name None = true
is_open_id name (Some (text id)) =
    text_eq id name || (if is_keyword id then must_expand name else not (has_keyword_form id))
is_open_id name (Some _) = true

-- what the map of a term must hold for a bad IRI mapping: a reverse property without an id, or an
-- id that may give no IRI
abbrev pub mapping_cause : List ℕ → JsonMembers → Bool
mapping_cause name members =
    if has_key (codes "@reverse") members then not (has_key (codes "@id") members)
    else is_open_id name (value_of (codes "@id") members)

-- what the map of a term of this name must hold for an error
abbrev pub definition_cause : LdError → List ℕ → JsonMembers → Bool
definition_cause ld.InvalidTypeMapping name members = is_bad_type (value_of (codes "@type") members)
definition_cause ld.InvalidReverseProperty name members =
    has_key (codes "@reverse") members
    && (has_key (codes "@id") members
    || is_bad_reverse_container (value_of (codes "@container") members))
definition_cause ld.InvalidIriMapping name members = mapping_cause name members
definition_cause ld.InvalidKeywordAlias name members =
    is_forward members && is_text (value_of (codes "@id") members)
definition_cause ld.InvalidContainerMapping name members =
    is_forward members && is_bad_container (value_of (codes "@container") members)
definition_cause ld.InvalidLanguageMapping name members =
    is_forward members
    && (not (has_key (codes "@type") members)
    && is_bad_language (value_of (codes "@language") members))
definition_cause ld.InvalidPrefixValue name members =
    is_forward members
    && (not (has_colon_or_slash name) && is_bad_prefix (value_of (codes "@prefix") members))
definition_cause ld.InvalidTermDefinition name members =
    has_other_key members
    || (is_forward members && is_misplaced_prefix name (value_of (codes "@prefix") members))
definition_cause _ _ _ = false

abbrev pub is_definition_error : LdError → Bool
is_definition_error ld.InvalidTermDefinition = true
is_definition_error _ = false

-- what the value of a term of this name must be for an error; a text is a map with that `@id`, and
-- with `@id` null nothing is read
abbrev pub value_cause : LdError → List ℕ → JsonValue → Bool
value_cause e name (object members) =
    not (is_null (value_of (codes "@id") members)) && definition_cause e name members
value_cause e name (text id) = definition_cause e name (member (codes "@id") (text id) no_members)
value_cause e name null = false
value_cause e name (truth b) = is_definition_error e
value_cause e name (whole n) = is_definition_error e
value_cause e name fraction = is_definition_error e
value_cause e name (array items) = is_definition_error e

-- what a term and its value must be for an error; a term is needed for a cycle
abbrev pub entry_cause : LdError → Entry → Bool
entry_cause ld.CyclicIriMapping entry = true
entry_cause ld.KeywordRedefinition entry =
    is_keyword entry.name && not (text_eq entry.name (codes "@type") && sets_type entry.value)
entry_cause ld.InvalidTermDefinition entry =
    is_empty entry.name
    || (is_term_name entry.name && value_cause ld.InvalidTermDefinition entry.name entry.value)
entry_cause e entry = is_term_name entry.name && value_cause e entry.name entry.value

-- a value other than null
abbrev pub is_given : Option JsonValue → Bool
is_given None = false
is_given (Some null) = false
is_given (Some _) = true

-- what a map must hold for an error: a key of the context's own, or one of its terms
abbrev pub map_cause : LdError → JsonMembers → Bool
map_cause ld.InvalidVersionValue members = is_bad_version (value_of (codes "@version") members)
map_cause ld.InvalidLocalContext members = has_refused_key members
map_cause ld.InvalidVocabMapping members = is_given (value_of (codes "@vocab") members)
map_cause ld.InvalidDefaultLanguage members = is_bad_language (value_of (codes "@language") members)
map_cause e members = list_any (entry_cause e) (terms_of members)

abbrev pub is_remote_error : LdError → Bool
is_remote_error ld.LoadingRemoteContextFailed = true
is_remote_error _ = false

abbrev pub is_local_error : LdError → Bool
is_local_error ld.InvalidLocalContext = true
is_local_error _ = false

-- what a context must be or hold for an error
abbrev mutual
  pub context_cause : LdError → JsonValue → Bool
  context_cause e null = false
  context_cause e (text url) = is_remote_error e
  context_cause e (array items) = items_cause e items
  context_cause e (object members) = map_cause e members
  context_cause e (truth b) = is_local_error e
  context_cause e (whole n) = is_local_error e
  context_cause e fraction = is_local_error e

  pub items_cause : LdError → JsonItems → Bool
  items_cause e no_items = false
  items_cause e (item value rest) = context_cause e value || items_cause e rest

-- an error comes from a context only where its cause stands there
abbrev pub ErrorsHaveCauses : Type 0
ErrorsHaveCauses = (context : JsonValue) (e : LdError) → table_of context ≡ Err e →
    IsTrue (context_cause e context)

-- the errors that contexts give
abbrev pub is_context_error : LdError → Bool
is_context_error ld.CyclicIriMapping = true
is_context_error ld.InvalidVersionValue = true
is_context_error ld.InvalidContainerMapping = true
is_context_error ld.InvalidDefaultLanguage = true
is_context_error ld.InvalidIriMapping = true
is_context_error ld.InvalidKeywordAlias = true
is_context_error ld.InvalidLanguageMapping = true
is_context_error ld.InvalidLocalContext = true
is_context_error ld.InvalidPrefixValue = true
is_context_error ld.InvalidReverseProperty = true
is_context_error ld.InvalidTermDefinition = true
is_context_error ld.InvalidTypeMapping = true
is_context_error ld.InvalidVocabMapping = true
is_context_error ld.KeywordRedefinition = true
is_context_error ld.LoadingRemoteContextFailed = true
is_context_error _ = false

-- a context is refused by one of these alone
abbrev pub ErrorsAreNamed : Type 0
ErrorsAreNamed =
    (context : JsonValue) (e : LdError) → table_of context ≡ Err e → IsTrue (is_context_error e)
