-- What the definition of a term comes to by a table: a definition, or a term that is needed first
-- (JSON-LD 1.1 Processing Algorithms and API, section 4.2.2).
use Rattle.std.specs.Prelude.{List, ◌++◌, ℕ, Bool, true, false, not, ◌||◌, if◌then◌else◌, Option, Some, None, is_some, Result, Ok, Err, codes}
use Rattle.lf_model.specs.declared.table.TermTable.{TermTable}
use Rattle.lf_model.specs.declared.error.LdError.{LdError}
use Rattle.lf_model.specs.declared.error.LdError.TheVariants.{InvalidIriMapping, InvalidReverseProperty, InvalidTermDefinition, InvalidTypeMapping}
use Rattle.lf_model.specs.JsonData.{JsonValue, JsonMembers, null, text, object}
use Rattle.lf_rdf.specs.Equality.{text_eq, option_eq}
use Rattle.def_contexts.specs.Texts.{is_absolute, has_later_colon, before_colon}
use Rattle.def_contexts.specs.Keywords.{is_keyword, has_keyword_form}
use Rattle.def_contexts.specs.Outcomes.{◌>>=◌, refuse}
use Rattle.def_contexts.specs.Members.{value_of, all_keys}
use Rattle.def_contexts.specs.Expansion.{find_term, expand, Split, unsplit, as_is, split, split_of}
use Rattle.def_contexts.specs.TermParts.{container_of, reverse_container_of, language_of, prefix_of}
use Rattle.def_contexts.specs.Mappings.{is_type_mapping, must_expand, is_prefix_by_form, named_iri, iri_by_prefix}
use Rattle.def_contexts.specs.Terms.{is_definition_key, reverse_definition, plain_definition, bare_definition, Naming, by_id, by_name, undefined, no_text, naming_of}
use Rattle.lf_context.specs.declared.stage.Wanted.{Wanted}
use Rattle.lf_context.specs.declared.stage.Wanted.TheVariants.{Reverse, Id}
use Rattle.lf_context.specs.declared.stage.Stage.{Stage}
use Rattle.lf_context.specs.declared.stage.Stage.TheVariants.{TypePrefix, TypeExpanding, IriPrefix, IriExpanding, Confirming, ByName}
use Rattle.lf_context.specs.declared.stage.Turn.{Turn}
use Rattle.lf_context.specs.declared.stage.Turn.TheVariants.{Asks, Settled, Defined}
use Rattle.lf_context.specs.Stages.{part, is_simple}

-- the text before a `:` that is to be looked up
abbrev pub asked_of : Split → Option (List ℕ)
asked_of unsplit = None
asked_of as_is = None
asked_of (split before after) = Some before

-- the prefix of a text that is no term
abbrev pub asked_prefix : List ℕ → TermTable → Option (List ℕ)
asked_prefix words table =
    asked_of (if is_some (find_term words table.terms) then unsplit else split_of words)

-- an IRI that must be absolute
abbrev pub absolute_iri : Option (List ℕ) → Result (List ℕ) LdError
absolute_iri (Some iri) = if is_absolute iri then Ok iri else Err InvalidIriMapping
absolute_iri None = Err InvalidIriMapping

-- the last parts of a term whose IRI is found
unfoldable pub finished_turn :
    List ℕ → JsonValue → Option (List ℕ) → List ℕ → Bool → Result Turn LdError
finished_turn name value coercion iri by_form = do
  container ← container_of (part (codes "@container") value)
  language ← language_of (part (codes "@type") value) (part (codes "@language") value)
  prefix ← prefix_of name iri by_form (part (codes "@prefix") value)
  Ok (Defined (plain_definition name coercion language iri prefix container))

-- the last parts of a reverse property
unfoldable pub reverse_turn :
    List ℕ → JsonValue → Option (List ℕ) → Option (List ℕ) → Result Turn LdError
reverse_turn name value coercion found = do
  iri ← absolute_iri found
  container ← reverse_container_of (part (codes "@container") value)
  Ok (Defined (reverse_definition name coercion iri container))

-- the term itself must expand to the IRI
unfoldable pub confirming_turn :
    TermTable → List ℕ → JsonValue → Option (List ℕ) → List ℕ → Result Turn LdError
confirming_turn table name value coercion iri = do
  _ ← refuse (not (option_eq text_eq (expand table name true) (Some iri))) InvalidIriMapping
  finished_turn name value coercion iri (is_prefix_by_form name iri (is_simple value))

-- with the term's own prefix, or without one
abbrev pub confirm_asked :
    Option (List ℕ) → TermTable → List ℕ → JsonValue → Option (List ℕ) → List ℕ →
    Result Turn LdError
confirm_asked (Some asked) table name value coercion iri = Ok (Asks asked (Confirming coercion iri))
confirm_asked None table name value coercion iri = confirming_turn table name value coercion iri

abbrev pub confirm_if :
    Bool → TermTable → List ℕ → JsonValue → Option (List ℕ) → List ℕ → Result Turn LdError
confirm_if true table name value coercion iri =
    confirm_asked (asked_prefix name table) table name value coercion iri
confirm_if false table name value coercion iri =
    finished_turn name value coercion iri (is_prefix_by_form name iri (is_simple value))

-- the IRI of `@id` was expanded
unfoldable pub id_turn :
    TermTable → List ℕ → JsonValue → Option (List ℕ) → Option (List ℕ) → Result Turn LdError
id_turn table name value coercion found = do
  iri ← named_iri found
  confirm_if (must_expand name) table name value coercion iri

-- the term before the first `:` of the name can be looked up
unfoldable pub by_prefix_turn :
    TermTable → List ℕ → JsonValue → Option (List ℕ) → Result Turn LdError
by_prefix_turn table name value coercion = do
  iri ← absolute_iri (Some (iri_by_prefix name (find_term (before_colon name) table.terms)))
  finished_turn name value coercion iri false

abbrev pub in_vocabulary_turn :
    Option (List ℕ) → List ℕ → JsonValue → Option (List ℕ) → Result Turn LdError
in_vocabulary_turn (Some mapping) name value coercion =
    finished_turn name value coercion (mapping ++ name) false
in_vocabulary_turn None name value coercion = Err InvalidIriMapping

-- a term without an `@id` of its own
abbrev pub by_name_turn :
    Bool → TermTable → List ℕ → JsonValue → Option (List ℕ) → Result Turn LdError
by_name_turn true table name value coercion = Ok (Asks (before_colon name) (ByName coercion))
by_name_turn false table name value coercion = in_vocabulary_turn table.vocab name value coercion

-- ---- a text is expanded for the IRI of the term

abbrev pub iri_expanded_turn :
    Wanted → TermTable → List ℕ → JsonValue → Option (List ℕ) → Result Turn LdError
iri_expanded_turn (Reverse coercion) table name value found = reverse_turn name value coercion found
iri_expanded_turn (Id coercion) table name value found = id_turn table name value coercion found

unfoldable pub iri_expanding_turn :
    TermTable → List ℕ → JsonValue → List ℕ → Wanted → Result Turn LdError
iri_expanding_turn table name value words wanted =
    iri_expanded_turn wanted table name value (expand table words true)

abbrev pub iri_asked :
    Option (List ℕ) → TermTable → List ℕ → JsonValue → List ℕ → Wanted → Result Turn LdError
iri_asked (Some asked) table name value words wanted = Ok (Asks asked (IriExpanding words wanted))
iri_asked None table name value words wanted = iri_expanding_turn table name value words wanted

unfoldable pub iri_prefix_turn :
    TermTable → List ℕ → JsonValue → List ℕ → Wanted → Result Turn LdError
iri_prefix_turn table name value words wanted =
    iri_asked (asked_prefix words table) table name value words wanted

unfoldable pub iri_whole_turn :
    TermTable → List ℕ → JsonValue → List ℕ → Wanted → Result Turn LdError
iri_whole_turn table name value words wanted =
    if is_keyword words || has_keyword_form words then iri_prefix_turn table name value words wanted
    else Ok (Asks words (IriPrefix words wanted))

-- ---- after the type mapping

abbrev pub reverse_words :
    JsonValue → TermTable → List ℕ → JsonValue → Option (List ℕ) → Result Turn LdError
reverse_words (text words) table name value coercion =
    iri_whole_turn table name value words (Reverse coercion)
reverse_words _ table name value coercion = Err InvalidIriMapping

unfoldable pub reverse_begun_turn :
    TermTable → List ℕ → JsonValue → Option (List ℕ) → JsonValue → Result Turn LdError
reverse_begun_turn table name value coercion reverse = do
  _ ← refuse (is_some (part (codes "@id") value)) InvalidReverseProperty
  reverse_words reverse table name value coercion

abbrev pub named_turn :
    Naming → TermTable → List ℕ → JsonValue → Option (List ℕ) → Result Turn LdError
named_turn (by_id id) table name value coercion = iri_whole_turn table name value id (Id coercion)
named_turn by_name table name value coercion =
    by_name_turn (has_later_colon name) table name value coercion
named_turn undefined table name value coercion = Ok Settled
named_turn no_text table name value coercion = Err InvalidIriMapping

unfoldable pub plain_turn : TermTable → List ℕ → JsonValue → Option (List ℕ) → Result Turn LdError
plain_turn table name value coercion =
    named_turn (naming_of name (part (codes "@id") value)) table name value coercion

abbrev pub typed_by :
    Option JsonValue → TermTable → List ℕ → JsonValue → Option (List ℕ) → Result Turn LdError
typed_by (Some reverse) table name value coercion =
    reverse_begun_turn table name value coercion reverse
typed_by None table name value coercion = plain_turn table name value coercion

unfoldable pub typed_turn : TermTable → List ℕ → JsonValue → Option (List ℕ) → Result Turn LdError
typed_turn table name value coercion =
    typed_by (part (codes "@reverse") value) table name value coercion

-- ---- a text is expanded for the type mapping

unfoldable pub type_expanded_turn :
    TermTable → List ℕ → JsonValue → Option (List ℕ) → Result Turn LdError
type_expanded_turn table name value (Some iri) =
    if is_type_mapping iri then typed_turn table name value (Some iri) else Err InvalidTypeMapping
type_expanded_turn table name value None = Err InvalidTypeMapping

unfoldable pub type_expanding_turn : TermTable → List ℕ → JsonValue → List ℕ → Result Turn LdError
type_expanding_turn table name value words =
    type_expanded_turn table name value (expand table words true)

abbrev pub type_asked :
    Option (List ℕ) → TermTable → List ℕ → JsonValue → List ℕ → Result Turn LdError
type_asked (Some asked) table name value words = Ok (Asks asked (TypeExpanding words))
type_asked None table name value words = type_expanding_turn table name value words

unfoldable pub type_prefix_turn : TermTable → List ℕ → JsonValue → List ℕ → Result Turn LdError
type_prefix_turn table name value words =
    type_asked (asked_prefix words table) table name value words

unfoldable pub type_whole_turn : TermTable → List ℕ → JsonValue → List ℕ → Result Turn LdError
type_whole_turn table name value words =
    if is_keyword words || has_keyword_form words then type_prefix_turn table name value words
    else Ok (Asks words (TypePrefix words))

-- ---- the whole definition, and what is left of it at a stage

abbrev pub members_by : Option JsonValue → TermTable → List ℕ → JsonValue → Result Turn LdError
members_by None table name value = typed_turn table name value None
members_by (Some (text words)) table name value = type_whole_turn table name value words
members_by (Some _) table name value = Err InvalidTypeMapping

unfoldable pub members_turn : TermTable → List ℕ → JsonValue → Result Turn LdError
members_turn table name value = members_by (part (codes "@type") value) table name value

-- whether a map states members of a definition; with `@id` null it states that the term has no IRI
abbrev pub is_null : Option JsonValue → Bool
is_null (Some null) = true
is_null _ = false

abbrev pub map_states : JsonMembers → Option JsonValue → Result Bool LdError
map_states given id =
    if is_null id then Ok false
    else if all_keys is_definition_key given then Ok true
    else Err InvalidTermDefinition

abbrev pub states_members : JsonValue → Result Bool LdError
states_members null = Ok false
states_members (text id) = Ok true
states_members (object given) = map_states given (value_of (codes "@id") given)
states_members _ = Err InvalidTermDefinition

abbrev pub stated_turn : Bool → TermTable → List ℕ → JsonValue → Result Turn LdError
stated_turn false table name value = Ok (Defined (bare_definition name))
stated_turn true table name value = members_turn table name value

unfoldable pub begun_turn : TermTable → List ℕ → JsonValue → Result Turn LdError
begun_turn table name value = states_members value >>= λ stated. stated_turn stated table name value

abbrev pub resumed_turn : Stage → TermTable → List ℕ → JsonValue → Result Turn LdError
resumed_turn (TypePrefix words) table name value = type_prefix_turn table name value words
resumed_turn (TypeExpanding words) table name value = type_expanding_turn table name value words
resumed_turn (IriPrefix words wanted) table name value =
    iri_prefix_turn table name value words wanted
resumed_turn (IriExpanding words wanted) table name value =
    iri_expanding_turn table name value words wanted
resumed_turn (Confirming coercion iri) table name value =
    confirming_turn table name value coercion iri
resumed_turn (ByName coercion) table name value = by_prefix_turn table name value coercion
