-- Worked contexts at the edges: what is just accepted, and which condition is met first.
use Rattle.std.specs.Prelude.{◌≡◌, refl, [], ◌∷◌, pos, true, false, Some, None, Ok, Err, codes}
use Rattle.lf_model.specs.declared.table.Container.TheVariants.{LanguageSet}
use Rattle.lf_model.specs.declared.error.LdError.TheVariants as ld
use Rattle.lf_model.specs.JsonData.{null, truth, whole, text}
use Rattle.def_contexts.specs.Expansion.{expand}
use Rattle.def_contexts.specs.Table.{empty_table, table_of}
use Rattle.def_contexts.specs.CaseWords.{contexts_open, map_of, list_of, plain_term, table_with}

-- {"@base":null}
pub base_null : table_of (map_of ((codes "@base", null) ∷ [])) ≡ Ok empty_table
unfolding contexts_open
base_null = refl

-- [{"@vocab":"http://e/"},{"@vocab":""}]: the empty text expands by the mapping so far
pub vocab_empty :
    table_of (list_of (map_of ((codes "@vocab", text (codes "http://e/")) ∷ [])
    ∷ map_of ((codes "@vocab", text []) ∷ []) ∷ []))
    ≡ Ok (record empty_table { vocab = Some (codes "http://e/") })
unfolding contexts_open
vocab_empty = refl

-- {"@vocab":""}
pub vocab_empty_refused :
    table_of (map_of ((codes "@vocab", text []) ∷ [])) ≡ Err ld.InvalidVocabMapping
unfolding contexts_open
vocab_empty_refused = refl

-- [{"p":"http://e/"},{"@vocab":"p:x"}]: by the table so far
pub vocab_by_prefix :
    table_of (list_of (map_of ((codes "p", text (codes "http://e/")) ∷ [])
    ∷ map_of ((codes "@vocab", text (codes "p:x")) ∷ []) ∷ []))
    ≡ Ok (record
    (table_with (record (plain_term (codes "p") (codes "http://e/")) { prefix = true } ∷ []))
    { vocab = Some (codes "http://e/x") })
unfolding contexts_open
vocab_by_prefix = refl

-- {"@vocab":"p:x","p":"http://e/"}: a term of the same map comes later
pub vocab_before_terms :
    table_of
    (map_of ((codes "@vocab", text (codes "p:x")) ∷ (codes "p", text (codes "http://e/")) ∷ []))
    ≡ Ok (record
    (table_with (record (plain_term (codes "p") (codes "http://e/")) { prefix = true } ∷ []))
    { vocab = Some (codes "p:x") })
unfolding contexts_open
vocab_before_terms = refl

-- {"@vocab":"@id"}
pub vocab_keyword_refused :
    table_of (map_of ((codes "@vocab", text (codes "@id")) ∷ [])) ≡ Err ld.InvalidVocabMapping
unfolding contexts_open
vocab_keyword_refused = refl

-- {"@language":5,"@vocab":"x"}
pub vocab_before_language :
    table_of (map_of ((codes "@language", whole (pos 5)) ∷ (codes "@vocab", text (codes "x")) ∷ []))
    ≡ Err ld.InvalidVocabMapping
unfolding contexts_open
vocab_before_language = refl

-- {"":"x","@language":5}
pub language_before_terms :
    table_of (map_of (([], text (codes "x")) ∷ (codes "@language", whole (pos 5)) ∷ []))
    ≡ Err ld.InvalidDefaultLanguage
unfolding contexts_open
language_before_terms = refl

-- {"@foo":5}
pub form_ignored : table_of (map_of ((codes "@foo", whole (pos 5)) ∷ [])) ≡ Ok empty_table
unfolding contexts_open
form_ignored = refl

-- {"@":"http://e/"}: `@` alone has no keyword's form
pub at_alone :
    table_of (map_of ((codes "@", text (codes "http://e/")) ∷ []))
    ≡ Ok (table_with (record (plain_term (codes "@") (codes "http://e/")) { prefix = true } ∷ []))
unfolding contexts_open
at_alone = refl

-- {"@type":{"@container":["@set"]}}
pub type_set_array :
    table_of (map_of ((
      codes "@type",
      map_of ((codes "@container", list_of (text (codes "@set") ∷ [])) ∷ []),
    ) ∷ []))
    ≡ Ok (record empty_table { type_set = true })
unfolding contexts_open
type_set_array = refl

-- {"@type":{"@container":"@set","@id":"http://e/"}}
pub type_with_more_refused :
    table_of (map_of ((
      codes "@type",
      map_of ((codes "@container", text (codes "@set"))
          ∷ (codes "@id", text (codes "http://e/")) ∷ []),
    ) ∷ [])) ≡ Err ld.KeywordRedefinition
unfolding contexts_open
type_with_more_refused = refl

-- {"@type":{"@container":"@list"}}
pub type_list_refused :
    table_of
    (map_of ((codes "@type", map_of ((codes "@container", text (codes "@list")) ∷ [])) ∷ []))
    ≡ Err ld.KeywordRedefinition
unfolding contexts_open
type_list_refused = refl

-- {"a":{"@id":null,"x":5}}: no other key is read
pub no_iri :
    table_of
    (map_of ((codes "a", map_of ((codes "@id", null) ∷ (codes "x", whole (pos 5)) ∷ [])) ∷ []))
    ≡ Ok (table_with (record (plain_term (codes "a") (codes "x")) { iri = None } ∷ []))
unfolding contexts_open
no_iri = refl

-- [{"a":"http://e/a"},{"a":"@foo"}]: the older definition is gone
pub left_undefined :
    table_of (list_of (map_of ((codes "a", text (codes "http://e/a")) ∷ [])
    ∷ map_of ((codes "a", text (codes "@foo")) ∷ []) ∷ [])) ≡ Ok empty_table
unfolding contexts_open
left_undefined = refl

-- {"a":{"@id":5,"@type":5,"x":5}}
pub term_key_first :
    table_of (map_of ((
      codes "a",
      map_of ((codes "@id", whole (pos 5)) ∷ (codes "@type", whole (pos 5))
          ∷ (codes "x", whole (pos 5)) ∷ []),
    ) ∷ [])) ≡ Err ld.InvalidTermDefinition
unfolding contexts_open
term_key_first = refl

-- {"a":{"@id":"http://e/a","@reverse":"x","@type":5}}
pub type_before_reverse :
    table_of (map_of ((
      codes "a",
      map_of ((codes "@id", text (codes "http://e/a")) ∷ (codes "@reverse", text (codes "x"))
          ∷ (codes "@type", whole (pos 5)) ∷ []),
    ) ∷ [])) ≡ Err ld.InvalidTypeMapping
unfolding contexts_open
type_before_reverse = refl

-- {"a":{"@id":5,"@type":"@json"}}
pub type_before_id :
    table_of (map_of ((
      codes "a",
      map_of ((codes "@id", whole (pos 5)) ∷ (codes "@type", text (codes "@json")) ∷ []),
    )
    ∷ [])) ≡ Err ld.InvalidTypeMapping
unfolding contexts_open
type_before_id = refl

-- {"a":{"@container":5,"@id":5}}
pub id_before_container :
    table_of (map_of ((
      codes "a",
      map_of ((codes "@container", whole (pos 5)) ∷ (codes "@id", whole (pos 5)) ∷ []),
    ) ∷ []))
    ≡ Err ld.InvalidIriMapping
unfolding contexts_open
id_before_container = refl

-- {"a":{"@container":5,"@id":"http://e/a","@language":5}}
pub container_before_language :
    table_of (map_of ((
      codes "a",
      map_of ((codes "@container", whole (pos 5)) ∷ (codes "@id", text (codes "http://e/a"))
          ∷ (codes "@language", whole (pos 5)) ∷ []),
    ) ∷ [])) ≡ Err ld.InvalidContainerMapping
unfolding contexts_open
container_before_language = refl

-- {"a":{"@id":"http://e/a","@language":5,"@prefix":5}}
pub language_before_prefix :
    table_of (map_of ((
      codes "a",
      map_of ((codes "@id", text (codes "http://e/a")) ∷ (codes "@language", whole (pos 5))
          ∷ (codes "@prefix", whole (pos 5)) ∷ []),
    ) ∷ [])) ≡ Err ld.InvalidLanguageMapping
unfolding contexts_open
language_before_prefix = refl

-- {"a":{"@language":5,"@prefix":5,"@reverse":"http://e/p"}}: `@language` and `@prefix` aren't read
pub reverse_stops :
    table_of (map_of ((
      codes "a",
      map_of ((codes "@language", whole (pos 5)) ∷ (codes "@prefix", whole (pos 5))
          ∷ (codes "@reverse", text (codes "http://e/p")) ∷ []),
    ) ∷ []))
    ≡ Ok (table_with (record (plain_term (codes "a") (codes "http://e/p")) { reverse = true } ∷ []))
unfolding contexts_open
reverse_stops = refl

-- {"a":{"@container":null,"@reverse":"http://e/p"}}
pub reverse_no_container :
    table_of (map_of ((
      codes "a",
      map_of
          ((codes "@container", null) ∷ (codes "@reverse", text (codes "http://e/p")) ∷ []),
    )
    ∷ []))
    ≡ Ok (table_with (record (plain_term (codes "a") (codes "http://e/p")) { reverse = true } ∷ []))
unfolding contexts_open
reverse_no_container = refl

-- {"a":{"@container":"@list","@reverse":"http://e/p"}}
pub reverse_list_refused :
    table_of (map_of ((
      codes "a",
      map_of ((codes "@container", text (codes "@list"))
          ∷ (codes "@reverse", text (codes "http://e/p")) ∷ []),
    ) ∷ []))
    ≡ Err ld.InvalidReverseProperty
unfolding contexts_open
reverse_list_refused = refl

-- {"a":{"@container":"@list","@reverse":"x"}}: before the container
pub reverse_relative_refused :
    table_of (map_of ((
      codes "a",
      map_of ((codes "@container", text (codes "@list"))
          ∷ (codes "@reverse", text (codes "x")) ∷ []),
    ) ∷ [])) ≡ Err ld.InvalidIriMapping
unfolding contexts_open
reverse_relative_refused = refl

-- {"a":{"@reverse":"@type"}}
pub reverse_keyword_refused :
    table_of (map_of ((codes "a", map_of ((codes "@reverse", text (codes "@type")) ∷ [])) ∷ []))
    ≡ Err ld.InvalidIriMapping
unfolding contexts_open
reverse_keyword_refused = refl

-- {"a/b":"http://e/x"}: a term with `/` must itself expand
pub slash_refused :
    table_of (map_of ((codes "a/b", text (codes "http://e/x")) ∷ [])) ≡ Err ld.InvalidIriMapping
unfolding contexts_open
slash_refused = refl

-- {"@vocab":"http://e/","a/b":"http://e/a/b"}
pub slash_expanded :
    table_of (map_of ((codes "@vocab", text (codes "http://e/"))
    ∷ (codes "a/b", text (codes "http://e/a/b")) ∷ []))
    ≡ Ok (record (table_with (plain_term (codes "a/b") (codes "http://e/a/b") ∷ []))
    { vocab = Some (codes "http://e/") })
unfolding contexts_open
slash_expanded = refl

-- {"p":"http://e/","p:x":"http://e/x"}
pub compact_expanded :
    table_of (map_of
    ((codes "p", text (codes "http://e/")) ∷ (codes "p:x", text (codes "http://e/x")) ∷ []))
    ≡ Ok (table_with (record (plain_term (codes "p") (codes "http://e/")) { prefix = true }
    ∷ plain_term (codes "p:x") (codes "http://e/x") ∷ []))
unfolding contexts_open
compact_expanded = refl

-- {"p":{"@id":"http://e/"},"p:x":"http://e/x"}: `p` may not be a prefix
pub compact_refused :
    table_of (map_of ((codes "p", map_of ((codes "@id", text (codes "http://e/")) ∷ []))
    ∷ (codes "p:x", text (codes "http://e/x")) ∷ [])) ≡ Err ld.InvalidIriMapping
unfolding contexts_open
compact_refused = refl

-- {"p":{"@id":"http://e/","@prefix":true},"p:x":"http://e/x"}
pub compact_by_prefix :
    table_of (map_of ((
      codes "p",
      map_of ((codes "@id", text (codes "http://e/")) ∷ (codes "@prefix", truth true) ∷ []),
    )
    ∷ (codes "p:x", text (codes "http://e/x")) ∷ []))
    ≡ Ok (table_with (record (plain_term (codes "p") (codes "http://e/")) { prefix = true }
    ∷ plain_term (codes "p:x") (codes "http://e/x") ∷ []))
unfolding contexts_open
compact_by_prefix = refl

-- {":a":"http://e/a","b:":"http://e/"}: the first and the last character may be `:`
pub outer_colons :
    table_of (map_of
    ((codes ":a", text (codes "http://e/a")) ∷ (codes "b:", text (codes "http://e/")) ∷ []))
    ≡ Ok (table_with (plain_term (codes ":a") (codes "http://e/a")
    ∷ plain_term (codes "b:") (codes "http://e/") ∷ []))
unfolding contexts_open
outer_colons = refl

-- {"a":"http://e/x#","b":"http://e/x","c":"urn:x@","d":{"@id":"urn:x:"}}
pub delims :
    table_of (map_of ((codes "a", text (codes "http://e/x#"))
    ∷ (codes "b", text (codes "http://e/x")) ∷ (codes "c", text (codes "urn:x@"))
    ∷ (codes "d", map_of ((codes "@id", text (codes "urn:x:")) ∷ [])) ∷ []))
    ≡ Ok (table_with (record (plain_term (codes "a") (codes "http://e/x#")) { prefix = true }
    ∷ plain_term (codes "b") (codes "http://e/x")
    ∷ record (plain_term (codes "c") (codes "urn:x@")) { prefix = true }
    ∷ plain_term (codes "d") (codes "urn:x:") ∷ []))
unfolding contexts_open
delims = refl

-- {"a":"id","id":"@id"}
pub alias_of_alias :
    table_of (map_of ((codes "a", text (codes "id")) ∷ (codes "id", text (codes "@id")) ∷ []))
    ≡ Ok (table_with
    (plain_term (codes "a") (codes "@id") ∷ plain_term (codes "id") (codes "@id") ∷ []))
unfolding contexts_open
alias_of_alias = refl

-- {"@vocab":"http://v/","a":{}}
pub by_vocab :
    table_of (map_of ((codes "@vocab", text (codes "http://v/")) ∷ (codes "a", map_of []) ∷ []))
    ≡ Ok (record (table_with (plain_term (codes "a") (codes "http://v/a") ∷ []))
    { vocab = Some (codes "http://v/") })
unfolding contexts_open
by_vocab = refl

-- {"a":{}}
pub no_vocab_refused : table_of (map_of ((codes "a", map_of []) ∷ [])) ≡ Err ld.InvalidIriMapping
unfolding contexts_open
no_vocab_refused = refl

-- {"b":{"@id":"http://e/"},"b:c":{}}: whether or not `b` may be a prefix
pub by_term :
    table_of (map_of ((codes "b", map_of ((codes "@id", text (codes "http://e/")) ∷ []))
    ∷ (codes "b:c", map_of []) ∷ []))
    ≡ Ok (table_with (plain_term (codes "b") (codes "http://e/")
    ∷ plain_term (codes "b:c") (codes "http://e/c") ∷ []))
unfolding contexts_open
by_term = refl

-- {"b":null,"b:c":{}}: `b` has no IRI
pub by_itself :
    table_of (map_of ((codes "b", null) ∷ (codes "b:c", map_of []) ∷ []))
    ≡ Ok (table_with (record (plain_term (codes "b") (codes "x")) { iri = None }
    ∷ plain_term (codes "b:c") (codes "b:c") ∷ []))
unfolding contexts_open
by_itself = refl

-- {"_:a":{}}
pub blank_refused : table_of (map_of ((codes "_:a", map_of []) ∷ [])) ≡ Err ld.InvalidIriMapping
unfolding contexts_open
blank_refused = refl

-- {"b:c":"b:c"}
pub own_name :
    table_of (map_of ((codes "b:c", text (codes "b:c")) ∷ []))
    ≡ Ok (table_with (plain_term (codes "b:c") (codes "b:c") ∷ []))
unfolding contexts_open
own_name = refl

-- {"a":{"@container":["@set","@language"],"@id":"http://e/a"}}
pub language_and_set :
    table_of (map_of ((
      codes "a",
      map_of ((
        codes "@container",
        list_of (text (codes "@set") ∷ text (codes "@language") ∷ []),
      )
          ∷ (codes "@id", text (codes "http://e/a")) ∷ []),
    ) ∷ []))
    ≡ Ok (table_with
    (record (plain_term (codes "a") (codes "http://e/a")) { container = LanguageSet } ∷ []))
unfolding contexts_open
language_and_set = refl

-- {"a":{"@container":["@set","@set"],"@id":"http://e/a"}}
pub two_sets_refused :
    table_of (map_of ((
      codes "a",
      map_of ((codes "@container", list_of (text (codes "@set") ∷ text (codes "@set") ∷ []))
          ∷ (codes "@id", text (codes "http://e/a")) ∷ []),
    ) ∷ []))
    ≡ Err ld.InvalidContainerMapping
unfolding contexts_open
two_sets_refused = refl

-- {"a":{"@container":null,"@id":"http://e/a"}}
pub no_container_refused :
    table_of (map_of ((
      codes "a",
      map_of ((codes "@container", null) ∷ (codes "@id", text (codes "http://e/a")) ∷ []),
    )
    ∷ [])) ≡ Err ld.InvalidContainerMapping
unfolding contexts_open
no_container_refused = refl

-- {"a":{"@id":"http://e/a","@language":5,"@type":"@none"}}: `@language` is read only without
-- `@type`
pub language_unread :
    table_of (map_of ((
      codes "a",
      map_of ((codes "@id", text (codes "http://e/a")) ∷ (codes "@language", whole (pos 5))
          ∷ (codes "@type", text (codes "@none")) ∷ []),
    ) ∷ []))
    ≡ Ok (table_with (record (plain_term (codes "a") (codes "http://e/a"))
    { coercion = Some (codes "@none") } ∷ []))
unfolding contexts_open
language_unread = refl

-- {"a":{"@id":"http://e/a","@language":null},"b":{"@id":"http://e/b","@language":"DE"}}
pub language_null :
    table_of (map_of ((
      codes "a",
      map_of ((codes "@id", text (codes "http://e/a")) ∷ (codes "@language", null) ∷ []),
    )
    ∷ (
      codes "b",
      map_of ((codes "@id", text (codes "http://e/b"))
          ∷ (codes "@language", text (codes "DE")) ∷ []),
    ) ∷ []))
    ≡ Ok (table_with (record (plain_term (codes "a") (codes "http://e/a")) { language = Some None }
    ∷ record (plain_term (codes "b") (codes "http://e/b"))
    { language = Some (Some (codes "de")) } ∷ []))
unfolding contexts_open
language_null = refl

-- {"p:x":{"@prefix":5}}: before the value of `@prefix` is looked at
pub prefix_on_compact_refused :
    table_of (map_of ((codes "p:x", map_of ((codes "@prefix", whole (pos 5)) ∷ [])) ∷ []))
    ≡ Err ld.InvalidTermDefinition
unfolding contexts_open
prefix_on_compact_refused = refl

-- {"a":{"@id":"@id","@prefix":true}}
pub prefix_on_keyword_refused :
    table_of (map_of ((
      codes "a",
      map_of ((codes "@id", text (codes "@id")) ∷ (codes "@prefix", truth true) ∷ []),
    ) ∷ []))
    ≡ Err ld.InvalidTermDefinition
unfolding contexts_open
prefix_on_keyword_refused = refl

-- {"a":{"@id":"@id","@prefix":false}}
pub no_prefix_on_keyword :
    table_of (map_of ((
      codes "a",
      map_of ((codes "@id", text (codes "@id")) ∷ (codes "@prefix", truth false) ∷ []),
    ) ∷ []))
    ≡ Ok (table_with (plain_term (codes "a") (codes "@id") ∷ []))
unfolding contexts_open
no_prefix_on_keyword = refl

-- {"a":"b:x","b":5}
pub needed_first :
    table_of (map_of ((codes "a", text (codes "b:x")) ∷ (codes "b", whole (pos 5)) ∷ []))
    ≡ Err ld.InvalidTermDefinition
unfolding contexts_open
needed_first = refl

-- {"a":"b:x","b":null}
pub needed_without_iri :
    table_of (map_of ((codes "a", text (codes "b:x")) ∷ (codes "b", null) ∷ []))
    ≡ Ok (table_with (plain_term (codes "a") (codes "b:x")
    ∷ record (plain_term (codes "b") (codes "x")) { iri = None } ∷ []))
unfolding contexts_open
needed_without_iri = refl

-- {"a":{"@id":"http://e/a","@type":"a"}}
pub cycle_by_type :
    table_of (map_of ((
      codes "a",
      map_of
          ((codes "@id", text (codes "http://e/a")) ∷ (codes "@type", text (codes "a")) ∷ []),
    )
    ∷ [])) ≡ Err ld.CyclicIriMapping
unfolding contexts_open
cycle_by_type = refl

-- [{"a":"http://e/"},{"b":"a:x"}]
pub older_prefix :
    table_of (list_of (map_of ((codes "a", text (codes "http://e/")) ∷ [])
    ∷ map_of ((codes "b", text (codes "a:x")) ∷ []) ∷ []))
    ≡ Ok (table_with (record (plain_term (codes "a") (codes "http://e/")) { prefix = true }
    ∷ plain_term (codes "b") (codes "http://e/x") ∷ []))
unfolding contexts_open
older_prefix = refl

-- [{"a":"http://e/"},{"a":"a:x"}]: not by its older definition
pub older_gone :
    table_of (list_of (map_of ((codes "a", text (codes "http://e/")) ∷ [])
    ∷ map_of ((codes "a", text (codes "a:x")) ∷ []) ∷ [])) ≡ Err ld.CyclicIriMapping
unfolding contexts_open
older_gone = refl

-- a text is cut at its first `:`, a scheme has digits, `+`, `.` and `-`, and an alias of a keyword
-- is one everywhere
pub cut_at_first :
    expand (table_with (record (plain_term (codes "p") (codes "http://e/")) { prefix = true } ∷ []))
    (codes "p:x:y") true ≡ Some (codes "http://e/x:y")
unfolding contexts_open
cut_at_first = refl

pub scheme_kept : expand empty_table (codes "a1+b.c-d:x") true ≡ Some (codes "a1+b.c-d:x")
unfolding contexts_open
scheme_kept = refl

pub alias_everywhere :
    expand (table_with (plain_term (codes "i") (codes "@id") ∷ [])) (codes "i") false
    ≡ Some (codes "@id")
unfolding contexts_open
alias_everywhere = refl
