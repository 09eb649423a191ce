-- Worked cases of chosen terms and compacted IRIs.
use Rattle.std.specs.Prelude.{◌≡◌, refl, List, [], ◌∷◌, ℕ, true, false, Option, Some, None, codes, option_map}
use Rattle.lf_model.specs.declared.table.TermTable.{TermTable}
use Rattle.lf_model.specs.declared.table.TermDef.{TermDef}
use Rattle.lf_model.specs.declared.table.Container.{Container}
use Rattle.lf_model.specs.declared.table.Container.TheVariants as container
use Rattle.def_contexts.specs.Keywords.{has_keyword_form}
use Rattle.def_contexts.specs.Expansion.{expand}
use Rattle.def_selection.specs.declared.pick.Pick.{Pick}
use Rattle.def_selection.specs.declared.pick.PickKind.TheVariants.{AnyKind, LanguageKind, TypeKind}
use Rattle.def_selection.specs.Keywords.{selection_open, at_any, at_id, at_none}
use Rattle.def_selection.specs.Slots.{slot, slots}
use Rattle.def_selection.specs.Chosen.{chosen}
use Rattle.def_selection.specs.Iris.{no_value, short, short_keyword}

-- a term for an IRI: its coercion, its own language, its container
abbrev term : List ℕ → List ℕ → Option (List ℕ) → Option (Option (List ℕ)) → Container → TermDef
term name iri coercion language held = record {
  name = name;
  iri = Some iri;
  prefix = false;
  reverse = false;
  coercion = coercion;
  language = language;
  container = held;
}

abbrev table : Option (List ℕ) → List TermDef → TermTable
table vocab terms =
    record { vocab = vocab; language = Some (codes "de"); terms = terms; type_set = false }

-- what a literal with the language `en` asks for
abbrev english : Pick
english = record {
  containers =
      container.Language ∷ container.LanguageSet ∷ container.Set ∷ container.NoContainer ∷ [];
  kind = LanguageKind;
  preferred = codes "en" ∷ at_none ∷ at_any ∷ [];
  has_value = true;
}

-- what a node with an id asks for
abbrev linked : Pick
linked = record {
  containers = container.Set ∷ container.NoContainer ∷ [];
  kind = TypeKind;
  preferred = at_id ∷ codes "@vocab" ∷ at_none ∷ at_any ∷ [];
  has_value = true;
}

abbrev iri : List ℕ
iri = codes "http://e/p"

abbrev names : TermTable
names =
    table None (
    term (codes "en") iri None (Some (Some (codes "en"))) container.NoContainer
    ∷ term (codes "id") iri (Some (codes "@id")) None container.NoContainer
    ∷ term (codes "long") iri None None container.NoContainer
    ∷ term (codes "null") iri None (Some None) container.NoContainer
    ∷ term (codes "p") iri None None container.NoContainer
    ∷ term (codes "q") (codes "http://e/q") None None container.Set
    ∷ [])

-- a term without a language of its own stands under the table's language, under no language and
-- under no type
pub plain_slots :
    slots names (term (codes "p") iri None None container.NoContainer)
    ≡ slot AnyKind at_none ∷ slot LanguageKind (codes "de") ∷ slot LanguageKind at_none
    ∷ slot TypeKind at_none ∷ []
plain_slots = refl

-- the slot of the language comes before the one of no language
pub own_language : option_map (λ t. t.name) (chosen names iri english) ≡ Some (codes "en")
unfolding selection_open
own_language = refl

-- the coercion `@id` comes before no coercion
pub coerced_to_id : option_map (λ t. t.name) (chosen names iri linked) ≡ Some (codes "id")
unfolding selection_open
coerced_to_id = refl

-- in one slot the shortest term is chosen
pub shortest :
    option_map (λ t. t.name) (chosen names iri (record linked { preferred = at_none ∷ [] }))
    ≡ Some (codes "p")
unfolding selection_open
shortest = refl

-- of the same length the least is chosen
pub least_bytes :
    option_map (λ t. t.name)
    (chosen
    (table None (
    term (codes "q") iri None None container.NoContainer
    ∷ term (codes "o") iri None None container.NoContainer
    ∷ term (codes "p") iri None None container.NoContainer
    ∷ [])) iri linked)
    ≡ Some (codes "o")
unfolding selection_open
least_bytes = refl

-- a term without a language of its own stands under the table's language, and one whose language is
-- null under `@null`
pub default_language :
    option_map (λ t. t.name)
    (chosen names iri (record english { preferred = codes "de" ∷ at_none ∷ at_any ∷ [] }))
    ≡ Some (codes "p")
unfolding selection_open
default_language = refl

pub null_language :
    option_map (λ t. t.name)
    (chosen names iri (record english { preferred = codes "@null" ∷ at_none ∷ at_any ∷ [] }))
    ≡ Some (codes "null")
unfolding selection_open
null_language = refl

-- the coercion `@none` stands under any type and any language, which are asked for last
abbrev any_kind : TermTable
any_kind =
    table None (term (codes "any") iri (Some (codes "@none")) None container.NoContainer ∷ [])

pub any_type : option_map (λ t. t.name) (chosen any_kind iri linked) ≡ Some (codes "any")
unfolding selection_open
any_type = refl

pub any_language : option_map (λ t. t.name) (chosen any_kind iri english) ≡ Some (codes "any")
unfolding selection_open
any_language = refl

pub any_last :
    option_map (λ t. t.name)
    (chosen
    (table None (
    term (codes "any") iri (Some (codes "@none")) None container.NoContainer
    ∷ term (codes "longer") iri None None container.NoContainer
    ∷ [])) iri english)
    ≡ Some (codes "longer")
unfolding selection_open
any_last = refl

-- every term but a reverse one stands in (any, `@none`), which a list asks for that is empty
abbrev empty_list : Pick
empty_list = record {
  containers = container.List ∷ container.NoContainer ∷ [];
  kind = AnyKind;
  preferred = at_none ∷ at_any ∷ [];
  has_value = true;
}

pub any_term : option_map (λ t. t.name) (chosen names iri empty_list) ≡ Some (codes "p")
unfolding selection_open
any_term = refl

-- a reverse term is chosen where `@reverse` is asked for, and nowhere else
abbrev turned : TermTable
turned = table None (record (term (codes "in") iri (Some (codes "@id")) None container.NoContainer)
    { reverse = true } ∷ [])

pub reverse_only : chosen turned iri linked ≡ None
unfolding selection_open
reverse_only = refl

pub reverse_asked :
    option_map (λ t. t.name)
    (chosen turned iri (record linked { preferred = codes "@reverse" ∷ linked.preferred }))
    ≡ Some (codes "in")
unfolding selection_open
reverse_asked = refl

-- the container decides before the slot
pub container_first :
    option_map (λ t. t.name)
    (chosen
    (table None (
    term (codes "a") iri None (Some (Some (codes "en"))) container.NoContainer
    ∷ term (codes "longer") iri None None container.Set
    ∷ [])) iri english)
    ≡ Some (codes "longer")
unfolding selection_open
container_first = refl

-- a term of another container than the pick's, and one of another IRI, aren't chosen
pub none_fits : chosen names (codes "http://e/r") linked ≡ None
unfolding selection_open
none_fits = refl

-- a term that may be a prefix
abbrev prefix : List ℕ → List ℕ → TermDef
prefix name stands_for = record {
  name = name;
  iri = Some stands_for;
  prefix = true;
  reverse = false;
  coercion = None;
  language = None;
  container = container.NoContainer;
}

abbrev prefixes : TermTable
prefixes =
    table (Some (codes "http://v/")) (
    prefix (codes "ex") (codes "http://e/")
    ∷ prefix (codes "exp") (codes "http://e/p")
    ∷ prefix (codes "tag") (codes "http://t/")
    ∷ term (codes "name") (codes "http://e/n") None None container.NoContainer
    ∷ [])

-- the shortest compact IRI, then the least
pub shortest_prefix : short prefixes (codes "http://e/pq") false no_value ≡ Some (codes "ex:pq")
unfolding selection_open
shortest_prefix = refl

pub least_prefix :
    short (table None
    (prefix (codes "eb") (codes "http://e/") ∷ prefix (codes "ea") (codes "http://e/") ∷ []))
    (codes "http://e/p") false no_value
    ≡ Some (codes "ea:p")
unfolding selection_open
least_prefix = refl

-- a prefix doesn't stand for its own IRI
pub no_rest : short prefixes (codes "http://e/") false no_value ≡ Some (codes "http://e/")
unfolding selection_open
no_rest = refl

-- a term only where the vocabulary counts
pub term_in_vocab : short prefixes (codes "http://e/n") true no_value ≡ Some (codes "name")
unfolding selection_open
term_in_vocab = refl

pub no_term_for_ids : short prefixes (codes "http://e/n") false no_value ≡ Some (codes "ex:n")
unfolding selection_open
no_term_for_ids = refl

-- the rest behind the vocabulary mapping, unless it is a term or a keyword
pub vocab_rest : short prefixes (codes "http://v/word") true no_value ≡ Some (codes "word")
unfolding selection_open
vocab_rest = refl

pub vocab_term : short prefixes (codes "http://v/name") true no_value ≡ Some (codes "http://v/name")
unfolding selection_open
vocab_term = refl

pub vocab_keyword :
    short prefixes (codes "http://v/@id") true no_value ≡ Some (codes "http://v/@id")
unfolding selection_open
vocab_keyword = refl

-- the vocabulary mapping comes before prefixes, and doesn't count for ids
abbrev both_ways : TermTable
both_ways = table (Some (codes "http://e/")) (prefix (codes "e") (codes "http://e/") ∷ [])

pub vocab_first : short both_ways (codes "http://e/p") true no_value ≡ Some (codes "p")
unfolding selection_open
vocab_first = refl

pub prefix_for_ids : short both_ways (codes "http://e/p") false no_value ≡ Some (codes "e:p")
unfolding selection_open
prefix_for_ids = refl

-- a compact IRI that is the name of a term: of another IRI it isn't used, and of this IRI only
-- where there is no value
abbrev named_compact : List ℕ → TermTable
named_compact stands_for =
    table None (prefix (codes "ex") (codes "http://e/")
    ∷ term (codes "ex:p") stands_for None None container.NoContainer ∷ [])

pub other_compact : short (named_compact (codes "http://e/q")) iri false no_value ≡ Some iri
unfolding selection_open
other_compact = refl

pub own_compact : short (named_compact iri) iri false no_value ≡ Some (codes "ex:p")
unfolding selection_open
own_compact = refl

pub own_compact_of_value : short (named_compact iri) iri false linked ≡ Some iri
unfolding selection_open
own_compact_of_value = refl

-- an IRI that would be read by a prefix, and one with an authority, which wouldn't
pub confused : short prefixes (codes "tag:x,1") false no_value ≡ None
unfolding selection_open
confused = refl

pub confused_with_vocab : short prefixes (codes "tag:x,1") true no_value ≡ None
unfolding selection_open
confused_with_vocab = refl

pub authority : short prefixes (codes "tag://x") false no_value ≡ Some (codes "tag://x")
unfolding selection_open
authority = refl

-- what is compacted by these rules and read as something else: a rest with a colon, a rest of a
-- keyword's form, `//` behind a prefix, and an IRI that is the name of a term of another IRI
abbrev expanded : TermTable → Option (List ℕ) → Option (List ℕ)
expanded terms None = None
expanded terms (Some written) = expand terms written true

abbrev read_again : TermTable → List ℕ → Option (List ℕ)
read_again terms text = expanded terms (short terms text true no_value)

pub rest_with_colon : read_again prefixes (codes "http://v/a:b") ≡ Some (codes "a:b")
unfolding selection_open expand has_keyword_form
rest_with_colon = refl

pub rest_like_keyword : read_again prefixes (codes "http://v/@word") ≡ None
unfolding selection_open expand has_keyword_form
rest_like_keyword = refl

pub authority_behind_prefix : read_again prefixes (codes "http://e///p") ≡ Some (codes "ex://p")
unfolding selection_open expand has_keyword_form
authority_behind_prefix = refl

pub named_like_iri :
    read_again (table None (term (codes "foo:") iri None None container.NoContainer ∷ []))
    (codes "foo:") ≡ Some iri
unfolding selection_open expand has_keyword_form
named_like_iri = refl

-- an alias of a keyword
pub alias :
    short_keyword
    (table None (term (codes "id") (codes "@id") None None container.NoContainer ∷ [])) at_id
    ≡ codes "id"
unfolding selection_open
alias = refl
