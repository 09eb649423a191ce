-- The type mapping and the IRI mapping of a term
-- (JSON-LD 1.1 Processing Algorithms and API, section 4.2.2, steps 12 to 18).
use Rattle.std.specs.Prelude.{List, [], ◌∷◌, ◌++◌, ℕ, Bool, true, false, not, ◌&&◌, ◌||◌, if◌then◌else◌, Option, Some, None, Result, Ok, Err, codes}
use Rattle.lf_base.specs.Ascii as ch
use Rattle.lf_model.specs.declared.table.TermDef.{TermDef}
use Rattle.lf_model.specs.declared.error.LdError.{LdError}
use Rattle.lf_model.specs.declared.error.LdError.TheVariants.{InvalidTypeMapping, InvalidIriMapping, InvalidKeywordAlias}
use Rattle.lf_model.specs.JsonData.{JsonValue, text}
use Rattle.lf_rdf.specs.Equality.{text_eq, option_eq}
use Rattle.def_contexts.specs.Texts.{is_absolute, has_inner_colon, before_colon, after_colon, ends_in_gen_delim, has_byte}
use Rattle.def_contexts.specs.Keywords.{is_keyword, one_of}
use Rattle.def_contexts.specs.Expansion.{find_term}
use Rattle.def_contexts.specs.Outcomes.{◌>>=◌, refuse}
use Rattle.def_contexts.specs.Drafts.{Draft, Need, Expanded, expanded, self_expanded}
use Rattle.def_contexts.specs.TermParts.{has_colon_or_slash}

-- a draft and a type mapping
pub record Typed : Type 0 where
  pub draft : Draft
  pub coercion : Option (List ℕ)

-- what a type mapping may be: `@id`, `@vocab`, `@none` or an absolute IRI
abbrev pub is_type_mapping : List ℕ → Bool
is_type_mapping iri =
    one_of (codes "@id" ∷ codes "@vocab" ∷ codes "@none" ∷ []) iri || is_absolute iri

abbrev pub type_expanded : Expanded → Option (List ℕ) → Result Typed LdError
type_expanded e (Some iri) =
    if is_type_mapping iri then Ok (record { draft = e.draft; coercion = Some iri })
    else Err InvalidTypeMapping
type_expanded e None = Err InvalidTypeMapping

abbrev pub type_mapping : Need → Option JsonValue → Draft → Result Typed LdError
type_mapping need None draft = Ok (record { draft = draft; coercion = None })
type_mapping need (Some (text name)) draft = do
  e ← expanded need name draft
  type_expanded e e.iri
type_mapping need (Some _) draft = Err InvalidTypeMapping

-- a draft and the IRI or keyword of a term, with whether it may be a prefix by its form
pub record Mapped : Type 0 where
  pub draft : Draft
  pub iri : List ℕ
  pub by_form : Bool

abbrev pub mapped : Draft → List ℕ → Bool → Mapped
mapped draft iri by_form = record { draft = draft; iri = iri; by_form = by_form }

-- an IRI that must be absolute
abbrev pub absolute_or_refused : Draft → Option (List ℕ) → Result Mapped LdError
absolute_or_refused draft (Some iri) =
    if is_absolute iri then Ok (mapped draft iri false) else Err InvalidIriMapping
absolute_or_refused draft None = Err InvalidIriMapping

-- `@reverse`: a text that expands to an absolute IRI
abbrev pub reverse_mapping : Need → JsonValue → Draft → Result Mapped LdError
reverse_mapping need (text name) draft = do
  e ← expanded need name draft
  absolute_or_refused e.draft e.iri
reverse_mapping need _ draft = Err InvalidIriMapping

-- whether a term must itself expand to the IRI that `@id` gives it
abbrev pub must_expand : List ℕ → Bool
must_expand name = has_inner_colon name || has_byte ch.slash name

-- a simple term of a plain name may be a prefix where its IRI ends in a delimiter
abbrev pub is_prefix_by_form : List ℕ → List ℕ → Bool → Bool
is_prefix_by_form name iri simple = simple && not (has_colon_or_slash name) && ends_in_gen_delim iri

-- a keyword other than `@context`, or an absolute IRI
abbrev pub named_iri : Option (List ℕ) → Result (List ℕ) LdError
named_iri None = Err InvalidIriMapping
named_iri (Some iri) =
    if text_eq iri (codes "@context") then Err InvalidKeywordAlias
    else if is_keyword iri || is_absolute iri then Ok iri
    else Err InvalidIriMapping

-- a term that must expand to its IRI, and does
abbrev pub confirmed : Bool → Need → List ℕ → List ℕ → Draft → Result Draft LdError
confirmed false need name iri draft = Ok draft
confirmed true need name iri draft = do
  e ← self_expanded need name draft
  _ ← refuse (not (option_eq text_eq e.iri (Some iri))) InvalidIriMapping
  Ok e.draft

-- the IRI that `@id` gives
abbrev pub id_mapping : Need → List ℕ → Bool → List ℕ → Draft → Result Mapped LdError
id_mapping need name simple id draft = do
  e ← expanded need id draft
  iri ← named_iri e.iri
  after ← confirmed (must_expand name) need name iri e.draft
  Ok (mapped after iri (is_prefix_by_form name iri simple))

-- an IRI and what follows the first `:` of a term, or else the term itself
abbrev pub iri_after : List ℕ → Option (List ℕ) → List ℕ
iri_after name (Some iri) = iri ++ after_colon name
iri_after name None = name

-- the IRI of the term before the first `:` and the rest, or else the term itself
abbrev pub iri_by_prefix : List ℕ → Option TermDef → List ℕ
iri_by_prefix name None = name
iri_by_prefix name (Some d) = iri_after name d.iri

abbrev pub vocab_mapping : List ℕ → Draft → Option (List ℕ) → Result Mapped LdError
vocab_mapping name draft (Some vocab) = Ok (mapped draft (vocab ++ name) false)
vocab_mapping name draft None = Err InvalidIriMapping

-- the IRI of a term without an `@id` of its own
abbrev pub name_mapping : Bool → Need → List ℕ → Draft → Result Mapped LdError
name_mapping true need name draft = do
  after ← need (before_colon name) draft
  absolute_or_refused after
      (Some (iri_by_prefix name (find_term (before_colon name) after.table.terms)))
name_mapping false need name draft = vocab_mapping name draft draft.table.vocab
