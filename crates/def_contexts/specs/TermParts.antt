-- The parts of a term definition: its container, language and prefix flag
-- (JSON-LD 1.1 Processing Algorithms and API, section 4.2.2, steps 13, 19, 22 and 25).
use Rattle.std.specs.Prelude.{List, ℕ, Bool, ◌&&◌, ◌||◌, if◌then◌else◌, Option, Some, None, Result, Ok, Err, codes}
use Rattle.lf_base.specs.Ascii as ch
use Rattle.lf_model.specs.declared.table.Container.{Container}
use Rattle.lf_model.specs.declared.table.Container.TheVariants.{NoContainer, Set, List as ListContainer, Language, LanguageSet}
use Rattle.lf_model.specs.declared.error.LdError.{LdError}
use Rattle.lf_model.specs.declared.error.LdError.TheVariants.{InvalidContainerMapping, InvalidReverseProperty, InvalidLanguageMapping, InvalidPrefixValue, InvalidTermDefinition}
use Rattle.lf_model.specs.JsonData.{JsonValue, null, truth, text, array, no_items, item}
use Rattle.lf_rdf.specs.Equality.{text_eq}
use Rattle.def_contexts.specs.Texts.{has_byte, lower}
use Rattle.def_contexts.specs.Keywords.{is_keyword}

-- the containers that have a name
abbrev pub container_named : List ℕ → Option Container
container_named name =
    if text_eq name (codes "@set") then Some Set
    else if text_eq name (codes "@list") then Some ListContainer
    else if text_eq name (codes "@language") then Some Language
    else None

-- `@language` and `@set`, in either order
abbrev pub are_language_and_set : List ℕ → List ℕ → Bool
are_language_and_set one two =
    text_eq one (codes "@language") && text_eq two (codes "@set")
    || text_eq one (codes "@set") && text_eq two (codes "@language")

abbrev pub container_pair : List ℕ → List ℕ → Option Container
container_pair one two = if are_language_and_set one two then Some LanguageSet else None

-- a container is a name, an array of one, or the pair
abbrev pub container_given : JsonValue → Option Container
container_given (text name) = container_named name
container_given (array (item (text name) no_items)) = container_named name
container_given (array (item (text one) (item (text two) no_items))) = container_pair one two
container_given _ = None

abbrev pub container_or_refused : LdError → Option Container → Result Container LdError
container_or_refused e (Some container) = Ok container
container_or_refused e None = Err e

-- the container of a term that is no reverse property
abbrev pub container_of : Option JsonValue → Result Container LdError
container_of None = Ok NoContainer
container_of (Some value) = container_or_refused InvalidContainerMapping (container_given value)

abbrev pub set_or_refused : Option Container → Result Container LdError
set_or_refused (Some Set) = Ok Set
set_or_refused _ = Err InvalidReverseProperty

-- the container of a reverse property is `@set` or none
abbrev pub reverse_container_of : Option JsonValue → Result Container LdError
reverse_container_of None = Ok NoContainer
reverse_container_of (Some null) = Ok NoContainer
reverse_container_of (Some value) = set_or_refused (container_given value)

-- null, or a language in small letters
abbrev pub language_given : LdError → JsonValue → Result (Option (List ℕ)) LdError
language_given e null = Ok None
language_given e (text language) = Ok (Some (lower language))
language_given e _ = Err e

-- a language mapping that stands
abbrev pub stated_language :
    Result (Option (List ℕ)) LdError → Result (Option (Option (List ℕ))) LdError
stated_language (Ok language) = Ok (Some language)
stated_language (Err e) = Err e

-- the language mapping is read only where there is no type mapping
abbrev pub language_of :
    Option JsonValue → Option JsonValue → Result (Option (Option (List ℕ))) LdError
language_of (Some typed) language = Ok None
language_of None None = Ok None
language_of None (Some value) = stated_language (language_given InvalidLanguageMapping value)

-- a compact IRI or a path
abbrev pub has_colon_or_slash : List ℕ → Bool
has_colon_or_slash name = has_byte ch.colon name || has_byte ch.slash name

-- `@prefix` that stands on a term of this IRI
abbrev pub prefix_given : List ℕ → JsonValue → Result Bool LdError
prefix_given iri (truth b) = if b && is_keyword iri then Err InvalidTermDefinition else Ok b
prefix_given iri _ = Err InvalidPrefixValue

-- whether a term may be a prefix: as `@prefix` says, or else as its form says
abbrev pub prefix_of : List ℕ → List ℕ → Bool → Option JsonValue → Result Bool LdError
prefix_of name iri by_form None = Ok by_form
prefix_of name iri by_form (Some value) =
    if has_colon_or_slash name then Err InvalidTermDefinition else prefix_given iri value
