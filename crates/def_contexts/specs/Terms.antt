-- Term definitions (JSON-LD 1.1 Processing Algorithms and API, section 4.2).
use Rattle.std.specs.Prelude.{List, [], ◌∷◌, ℕ, Bool, true, false, not, ◌&&◌, if◌then◌else◌, Option, Some, None, Result, Ok, Err, codes}
use Rattle.lf_model.specs.declared.table.TermDef.{TermDef}
use Rattle.lf_model.specs.declared.table.Container.{Container}
use Rattle.lf_model.specs.declared.table.Container.TheVariants.{NoContainer}
use Rattle.lf_model.specs.declared.error.LdError.{LdError}
use Rattle.lf_model.specs.declared.error.LdError.TheVariants.{InvalidIriMapping, InvalidReverseProperty, InvalidTermDefinition}
use Rattle.lf_model.specs.JsonData.{JsonValue, JsonMembers, null, text, object, no_members, member}
use Rattle.lf_rdf.specs.Equality.{text_eq}
use Rattle.def_contexts.specs.Texts.{has_later_colon}
use Rattle.def_contexts.specs.Keywords.{is_keyword, has_keyword_form, one_of}
use Rattle.def_contexts.specs.Outcomes.{◌>>=◌, refuse}
use Rattle.def_contexts.specs.Members.{value_of, has_key, all_keys}
use Rattle.def_contexts.specs.Drafts.{Draft, Need, settled, defined}
use Rattle.def_contexts.specs.TermParts.{container_of, reverse_container_of, language_of, prefix_of}
use Rattle.def_contexts.specs.Mappings.{Typed, type_mapping, Mapped, reverse_mapping, id_mapping, name_mapping}

-- what a term's value says: a term without an IRI, or a map, which is simple where it was a text
pub data Source : Type 0 where
  no_iri : Source
  entries : JsonMembers → Bool → Source

-- the keys that a term definition may have
abbrev pub is_definition_key : List ℕ → Bool
is_definition_key =
    one_of (codes "@id" ∷ codes "@reverse" ∷ codes "@type" ∷ codes "@container" ∷ codes "@language"
    ∷ codes "@prefix" ∷ [])

abbrev pub source_of_map : JsonMembers → Option JsonValue → Result Source LdError
source_of_map _ (Some null) = Ok no_iri
source_of_map given _ =
    if all_keys is_definition_key given then Ok (entries given false) else Err InvalidTermDefinition

abbrev pub source_of : JsonValue → Result Source LdError
source_of null = Ok no_iri
source_of (text id) = Ok (entries (member (codes "@id") (text id) no_members) true)
source_of (object members) = source_of_map members (value_of (codes "@id") members)
source_of _ = Err InvalidTermDefinition

-- the definition of a reverse property
abbrev pub reverse_definition : List ℕ → Option (List ℕ) → List ℕ → Container → TermDef
reverse_definition name coercion iri container =
    record {
      name = name;
      iri = Some iri;
      prefix = false;
      reverse = true;
      coercion = coercion;
      language = None;
      container = container;
    }

abbrev pub reverse_term : Need → List ℕ → JsonMembers → JsonValue → Typed → Result Draft LdError
reverse_term need name members value typed = do
  _ ← refuse (has_key (codes "@id") members) InvalidReverseProperty
  m ← reverse_mapping need value typed.draft
  container ← reverse_container_of (value_of (codes "@container") members)
  Ok (defined (reverse_definition name typed.coercion m.iri container) m.draft)

-- where a term's IRI comes from: its `@id`, its own name, or nothing, since `@id` has the form of a
-- keyword and is none
pub data Naming : Type 0 where
  by_id : List ℕ → Naming
  by_name : Naming
  undefined : Naming
  no_text : Naming

abbrev pub naming_of_id : List ℕ → List ℕ → Naming
naming_of_id name id =
    if text_eq id name then by_name
    else if has_keyword_form id && not (is_keyword id) then undefined
    else by_id id

abbrev pub naming_of : List ℕ → Option JsonValue → Naming
naming_of name None = by_name
naming_of name (Some (text id)) = naming_of_id name id
naming_of name (Some _) = no_text

abbrev pub plain_definition :
    List ℕ → Option (List ℕ) → Option (Option (List ℕ)) → List ℕ → Bool → Container → TermDef
plain_definition name coercion language iri prefix container =
    record {
      name = name;
      iri = Some iri;
      prefix = prefix;
      reverse = false;
      coercion = coercion;
      language = language;
      container = container;
    }

-- the last parts of a term whose IRI is found
abbrev pub mapped_term : List ℕ → JsonMembers → Option (List ℕ) → Mapped → Result Draft LdError
mapped_term name members coercion m = do
  container ← container_of (value_of (codes "@container") members)
  language ← language_of (value_of (codes "@type") members) (value_of (codes "@language") members)
  prefix ← prefix_of name m.iri m.by_form (value_of (codes "@prefix") members)
  Ok (defined (plain_definition name coercion language m.iri prefix container) m.draft)

abbrev pub plain_term : Naming → Need → List ℕ → JsonMembers → Bool → Typed → Result Draft LdError
plain_term undefined need name _ simple typed = Ok (settled name typed.draft)
plain_term no_text need name _ simple typed = Err InvalidIriMapping
plain_term (by_id id) need name members simple typed = do
  m ← id_mapping need name simple id typed.draft
  mapped_term name members typed.coercion m
plain_term by_name need name members simple typed = do
  m ← name_mapping (has_later_colon name) need name typed.draft
  mapped_term name members typed.coercion m

-- a term without an IRI
abbrev pub bare_definition : List ℕ → TermDef
bare_definition name =
    record {
      name = name;
      iri = None;
      prefix = false;
      reverse = false;
      coercion = None;
      language = None;
      container = NoContainer;
    }

abbrev pub typed_term :
    Option JsonValue → Need → List ℕ → JsonMembers → Bool → Typed → Result Draft LdError
typed_term (Some value) need name members simple typed = reverse_term need name members value typed
typed_term None need name members simple typed =
    plain_term (naming_of name (value_of (codes "@id") members)) need name members simple typed

abbrev pub sourced_term : Source → Need → List ℕ → Draft → Result Draft LdError
sourced_term no_iri need name draft = Ok (defined (bare_definition name) draft)
sourced_term (entries members simple) need name draft = do
  typed ← type_mapping need (value_of (codes "@type") members) draft
  typed_term (value_of (codes "@reverse") members) need name members simple typed

-- a term that is no keyword is defined by its value
unfoldable pub ordinary_term : Need → List ℕ → JsonValue → Draft → Result Draft LdError
ordinary_term need name value draft = do
  source ← source_of value
  sourced_term source need name draft
