-- Worked contexts that are refused, one for each error of contexts.
use Rattle.std.specs.Prelude.{◌≡◌, refl, List, [], ◌∷◌, ℕ, pos, true, Err, codes}
use Rattle.lf_model.specs.declared.error.LdError.TheVariants as ld
use Rattle.lf_model.specs.JsonData.{JsonValue, null, truth, whole, text}
use Rattle.def_contexts.specs.Table.{table_of}
use Rattle.def_contexts.specs.CaseWords.{contexts_open, map_of, list_of}

-- the context of one key
abbrev pub one : List ℕ → JsonValue → JsonValue
one key value = map_of ((key, value) ∷ [])

-- the context of one term, whose definition has the IRI `http://e/a` and one more key
abbrev pub term_with : List ℕ → JsonValue → JsonValue
term_with key value =
    one (codes "a") (map_of ((codes "@id", text (codes "http://e/a")) ∷ (key, value) ∷ []))

-- {"a":{"@id":"b:x"},"b":{"@id":"a:y"}}
pub cycle_refused :
    table_of (map_of ((codes "a", one (codes "@id") (text (codes "b:x")))
    ∷ (codes "b", one (codes "@id") (text (codes "a:y"))) ∷ [])) ≡ Err ld.CyclicIriMapping
unfolding contexts_open
cycle_refused = refl

-- a term that needs itself
pub own_cycle_refused : table_of (one (codes "a") (text (codes "a:x"))) ≡ Err ld.CyclicIriMapping
unfolding contexts_open
own_cycle_refused = refl

pub remote_refused : table_of (text (codes "http://e/c")) ≡ Err ld.LoadingRemoteContextFailed
unfolding contexts_open
remote_refused = refl

pub truth_refused : table_of (list_of (truth true ∷ [])) ≡ Err ld.InvalidLocalContext
unfolding contexts_open
truth_refused = refl

pub base_refused :
    table_of (one (codes "@base") (text (codes "http://e/"))) ≡ Err ld.InvalidLocalContext
unfolding contexts_open
base_refused = refl

-- a version that is no fraction is found before a key that is refused by name
pub version_refused :
    table_of (map_of
    ((codes "@import", text (codes "http://e/")) ∷ (codes "@version", whole (pos 1)) ∷ []))
    ≡ Err ld.InvalidVersionValue
unfolding contexts_open
version_refused = refl

pub vocab_refused : table_of (one (codes "@vocab") (text (codes "x"))) ≡ Err ld.InvalidVocabMapping
unfolding contexts_open
vocab_refused = refl

pub language_refused :
    table_of (one (codes "@language") (truth true)) ≡ Err ld.InvalidDefaultLanguage
unfolding contexts_open
language_refused = refl

pub empty_term_refused : table_of (one [] (text (codes "http://e/"))) ≡ Err ld.InvalidTermDefinition
unfolding contexts_open
empty_term_refused = refl

pub other_key_refused :
    table_of (term_with (codes "@index") (text (codes "x"))) ≡ Err ld.InvalidTermDefinition
unfolding contexts_open
other_key_refused = refl

pub keyword_refused :
    table_of (one (codes "@id") (text (codes "http://e/"))) ≡ Err ld.KeywordRedefinition
unfolding contexts_open
keyword_refused = refl

pub type_refused :
    table_of (term_with (codes "@type") (text (codes "x"))) ≡ Err ld.InvalidTypeMapping
unfolding contexts_open
type_refused = refl

pub reverse_beside_id_refused :
    table_of (term_with (codes "@reverse") (text (codes "http://e/b")))
    ≡ Err ld.InvalidReverseProperty
unfolding contexts_open
reverse_beside_id_refused = refl

pub relative_refused : table_of (one (codes "a") (text (codes "x"))) ≡ Err ld.InvalidIriMapping
unfolding contexts_open
relative_refused = refl

-- a term with a `:` must itself expand to its IRI
pub other_iri_refused :
    table_of (one (codes "urn:x") (text (codes "http://e/x"))) ≡ Err ld.InvalidIriMapping
unfolding contexts_open
other_iri_refused = refl

pub context_alias_refused :
    table_of (one (codes "a") (text (codes "@context"))) ≡ Err ld.InvalidKeywordAlias
unfolding contexts_open
context_alias_refused = refl

pub container_refused :
    table_of (term_with (codes "@container") (text (codes "@index")))
    ≡ Err ld.InvalidContainerMapping
unfolding contexts_open
container_refused = refl

pub term_language_refused :
    table_of (term_with (codes "@language") (whole (pos 1))) ≡ Err ld.InvalidLanguageMapping
unfolding contexts_open
term_language_refused = refl

pub prefix_refused : table_of (term_with (codes "@prefix") null) ≡ Err ld.InvalidPrefixValue
unfolding contexts_open
prefix_refused = refl
