-- The terms of a context, each defined with those that it needs
-- (JSON-LD 1.1 Processing Algorithms and API, section 4.2.2, steps 1 to 6).
use Rattle.std.specs.Prelude.{List, [], ◌∷◌, ℕ, zero, suc, Bool, true, false, if◌then◌else◌, Option, Some, None, Result, Ok, Err, length, codes}
use Rattle.lf_model.specs.declared.table.TermTable.{TermTable}
use Rattle.lf_model.specs.declared.error.LdError.{LdError}
use Rattle.lf_model.specs.declared.error.LdError.TheVariants.{CyclicIriMapping, InvalidTermDefinition, KeywordRedefinition}
use Rattle.lf_model.specs.JsonData.{JsonValue, text, array, object, no_items, item}
use Rattle.lf_rdf.specs.Equality.{text_eq}
use Rattle.def_contexts.specs.Texts.{is_empty}
use Rattle.def_contexts.specs.Keywords.{is_keyword, has_keyword_form, one_of}
use Rattle.def_contexts.specs.Outcomes.{◌>>=◌}
use Rattle.def_contexts.specs.Members.{only_value}
use Rattle.def_contexts.specs.Drafts.{Draft, Need, with_table, settled, forgotten}
use Rattle.def_contexts.specs.Terms.{ordinary_term}

-- what a key of a context is, as a term
pub data NameKind : Type 0 where
  empty_name : NameKind
  type_name : NameKind
  keyword_name : NameKind
  ignored_name : NameKind
  ordinary_name : NameKind

abbrev pub name_kind : List ℕ → NameKind
name_kind name =
    if is_empty name then empty_name
    else if text_eq name (codes "@type") then type_name
    else if is_keyword name then keyword_name
    else if has_keyword_form name then ignored_name
    else ordinary_name

-- `@set`, alone or in an array
abbrev pub is_set_alone : JsonValue → Bool
is_set_alone (text name) = text_eq name (codes "@set")
is_set_alone (array (item (text name) no_items)) = text_eq name (codes "@set")
is_set_alone _ = false

abbrev pub is_set_container : Option JsonValue → Bool
is_set_container (Some value) = is_set_alone value
is_set_container None = false

-- the one definition that `@type` may have: a map with `@container` alone, which is `@set`
abbrev pub sets_type : JsonValue → Bool
sets_type (object members) = is_set_container (only_value (codes "@container") members)
sets_type _ = false

abbrev pub type_term : JsonValue → Draft → Result Draft LdError
type_term value draft =
    if sets_type value then
    Ok (settled (codes "@type") (with_table (record draft.table { type_set = true }) draft))
    else Err KeywordRedefinition

-- a term is defined by its value
abbrev pub term_defined : NameKind → Need → List ℕ → JsonValue → Draft → Result Draft LdError
term_defined empty_name need name value draft = Err InvalidTermDefinition
term_defined type_name need name value draft = type_term value draft
term_defined keyword_name need name value draft = Err KeywordRedefinition
term_defined ignored_name need name value draft = Ok (settled name draft)
term_defined ordinary_name need name value draft =
    ordinary_term need name value (forgotten name draft)

-- a term of a context and its value
pub record Entry : Type 0 where
  pub name : List ℕ
  pub value : JsonValue

abbrev pub entry_value : List ℕ → List Entry → Option JsonValue
entry_value name [] = None
entry_value name (e ∷ rest) = if text_eq name e.name then Some e.value else entry_value name rest

-- how a needed term stands: it is no term of this context or is done, it is being defined, or it
-- waits with its value
pub data Standing : Type 0 where
  ready : Standing
  begun : Standing
  waiting : JsonValue → Standing

abbrev pub standing_of : Bool → Bool → Option JsonValue → Standing
standing_of done being None = ready
standing_of true being (Some value) = ready
standing_of false true (Some value) = begun
standing_of false false (Some value) = waiting value

abbrev pub standing : List Entry → List (List ℕ) → Draft → List ℕ → Standing
standing terms beings draft name =
    standing_of (one_of draft.done name) (one_of beings name) (entry_value name terms)

-- what defines a term, where the terms in the list are being defined
abbrev pub Define : Type 0
Define = List (List ℕ) → List ℕ → JsonValue → Draft → Result Draft LdError

abbrev pub made_ready : Standing → Define → List (List ℕ) → List ℕ → Draft → Result Draft LdError
made_ready ready define beings name draft = Ok draft
made_ready begun define beings name draft = Err CyclicIriMapping
made_ready (waiting value) define beings name draft = define beings name value draft

-- a needed term is defined where it waits; one that is being defined is in a cycle
abbrev pub needed : List Entry → Define → List (List ℕ) → Need
needed terms define beings name draft =
    made_ready (standing terms beings draft name) define beings name draft

-- A term is defined with the terms that it needs. The number bounds how many are being defined at
-- once.
unfoldable pub define : List Entry → ℕ → Define
define terms zero beings name value draft = Err CyclicIriMapping
define terms (suc room) beings name value draft =
    term_defined (name_kind name) (needed terms (define terms room) (name ∷ beings)) name value
    draft

-- each term in order, as if it were needed while none is being defined
abbrev pub define_each : Need → List Entry → Draft → Result Draft LdError
define_each need [] draft = Ok draft
define_each need (e ∷ rest) draft = do
  next ← need e.name draft
  define_each need rest next

-- all terms of a context; no more terms can be being defined at once than there are
unfoldable pub define_terms : List Entry → TermTable → Result Draft LdError
define_terms terms table =
    define_each (needed terms (define terms (length terms)) []) terms
    (record { table = table; done = [] })
