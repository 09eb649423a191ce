-- The definition of a term, cut where it needs another term
-- (JSON-LD 1.1 Processing Algorithms and API, section 4.2.2).
use Rattle.std.specs.Prelude.{◌≡◌, ◌<◌, List, ℕ, Bool, true, false, not, Option, Some, Result, Ok, codes, ⊤}
use Rattle.lf_model.specs.declared.table.TermTable.{TermTable}
use Rattle.lf_model.specs.declared.error.LdError.{LdError}
use Rattle.lf_model.specs.declared.error.LdError.TheVariants.{InvalidIriMapping}
use Rattle.lf_model.specs.JsonData.{JsonValue, JsonMembers, text, object, no_members, member}
use Rattle.lf_rdf.specs.Equality.{text_eq, option_eq}
use Rattle.def_contexts.specs.Texts.{before_colon}
use Rattle.def_contexts.specs.Outcomes.{◌>>=◌, refuse}
use Rattle.def_contexts.specs.Members.{value_of}
use Rattle.def_contexts.specs.Expansion.{find_term}
use Rattle.def_contexts.specs.Drafts.{Draft, Need, settled, defined, Expanded, expanded_by, need_prefix}
use Rattle.def_contexts.specs.TermParts.{reverse_container_of}
use Rattle.def_contexts.specs.Mappings.{type_expanded, mapped, absolute_or_refused, must_expand, is_prefix_by_form, named_iri, confirmed, iri_by_prefix}
use Rattle.def_contexts.specs.Terms.{reverse_definition, mapped_term, typed_term}
use Rattle.lf_context.specs.declared.stage.Wanted.{Wanted}
use Rattle.lf_context.specs.declared.stage.Wanted.TheVariants.{Reverse, Id}
use Rattle.lf_context.specs.declared.stage.Stage.{Stage}
use Rattle.lf_context.specs.declared.stage.Stage.TheVariants.{TypePrefix, TypeExpanding, IriPrefix, IriExpanding, Confirming, ByName}
use Rattle.lf_context.specs.declared.stage.Turn.{Turn}
use Rattle.lf_context.specs.declared.stage.Turn.TheVariants.{Asks, Settled, Defined}

-- the members of a term's value; a text is the `@id` of a map
abbrev pub members_in : JsonValue → JsonMembers
members_in (text id) = member (codes "@id") (text id) no_members
members_in (object given) = given
members_in _ = no_members

-- whether the value of a term is a text
abbrev pub is_simple : JsonValue → Bool
is_simple (text id) = true
is_simple _ = false

-- a member of a term's value
abbrev pub part : List ℕ → JsonValue → Option JsonValue
part key value = value_of key (members_in value)

-- a draft with this table
abbrev pub drafted : TermTable → List (List ℕ) → Draft
drafted table done = record { table = table; done = done }

-- what is done with the IRI that was expanded
abbrev pub after_iri : Wanted → Need → List ℕ → JsonValue → Expanded → Result Draft LdError
after_iri (Reverse coercion) need name value e = do
  m ← absolute_or_refused e.draft e.iri
  container ← reverse_container_of (part (codes "@container") value)
  Ok (defined (reverse_definition name coercion m.iri container) m.draft)
after_iri (Id coercion) need name value e = do
  iri ← named_iri e.iri
  after ← confirmed (must_expand name) need name iri e.draft
  mapped_term name (members_in value) coercion
      (mapped after iri (is_prefix_by_form name iri (is_simple value)))

-- what is done with the type mapping that was expanded
abbrev pub after_type : Need → List ℕ → JsonValue → Expanded → Result Draft LdError
after_type need name value e =
    type_expanded e e.iri >>= typed_term (part (codes "@reverse") value) need name
    (members_in value) (is_simple value)

-- the definition of a term from a stage on
abbrev pub resumed : Stage → Need → List ℕ → JsonValue → Draft → Result Draft LdError
resumed (TypePrefix words) need name value draft = do
  both ← need_prefix need words draft
  after_type need name value (expanded_by words both)
resumed (TypeExpanding words) need name value draft =
    after_type need name value (expanded_by words draft)
resumed (IriPrefix words wanted) need name value draft = do
  both ← need_prefix need words draft
  after_iri wanted need name value (expanded_by words both)
resumed (IriExpanding words wanted) need name value draft =
    after_iri wanted need name value (expanded_by words draft)
resumed (Confirming coercion iri) need name value draft = do
  _ ← refuse (not (option_eq text_eq (expanded_by name draft).iri (Some iri))) InvalidIriMapping
  mapped_term name (members_in value) coercion
      (mapped draft iri (is_prefix_by_form name iri (is_simple value)))
resumed (ByName coercion) need name value draft = do
  m ← absolute_or_refused draft
      (Some (iri_by_prefix name (find_term (before_colon name) draft.table.terms)))
  mapped_term name (members_in value) coercion m

-- what a turn comes to
abbrev pub turned : Turn → Need → List ℕ → JsonValue → Draft → Result Draft LdError
turned (Asks asked rest) need name value draft = need asked draft >>= resumed rest need name value
turned Settled need name value draft = Ok (settled name draft)
turned (Defined d) need name value draft = Ok (defined d draft)

-- a step of the definition of a term
abbrev pub Step : Type 0
Step = Need → Draft → Result Draft LdError

-- a turn says what the step comes to, whatever is needed and whatever is done
abbrev pub Tells : TermTable → List ℕ → JsonValue → Step → Result Turn LdError → Type 0
Tells table name value step turn =
    (need : Need) (done : List (List ℕ)) →
    step need (drafted table done) ≡ (turn >>= λ t. turned t need name value (drafted table done))

-- ---- how far a definition is: each stage has a lower rank than those before it

abbrev pub rank : Stage → ℕ
rank (TypePrefix _) = 6
rank (TypeExpanding _) = 5
rank (IriPrefix _ _) = 4
rank (IriExpanding _ _) = 3
rank (Confirming _ _) = 2
rank (ByName _) = 2

-- a turn of a term: what it leaves to do is below a rank, or it defines the term
abbrev pub IsFor : List ℕ → ℕ → Turn → Type 0
IsFor name most (Asks asked rest) = rank rest < most
IsFor name most Settled = ⊤
IsFor name most (Defined d) = d.name ≡ name
