-- Worked contexts.
use Rattle.std.specs.Prelude.{◌≡◌, refl, [], ◌∷◌, true, false, Some, None, Ok, codes}
use Rattle.lf_model.specs.declared.table.TermTable.{TermTable}
use Rattle.lf_model.specs.declared.table.Container.TheVariants.{Set, Language}
use Rattle.lf_model.specs.JsonData.{JsonValue, null, fraction, text}
use Rattle.def_contexts.specs.Expansion.{expand}
use Rattle.def_contexts.specs.Table.{empty_table, table_of}
use Rattle.def_contexts.specs.CaseWords.{contexts_open, map_of, list_of, plain_term, table_with}

-- {"tag":"http://t/"}
abbrev pub tag_terms : TermTable
tag_terms =
    table_with (record (plain_term (codes "tag") (codes "http://t/")) { prefix = true } ∷ [])

pub tag_table : table_of (map_of ((codes "tag", text (codes "http://t/")) ∷ [])) ≡ Ok tag_terms
unfolding contexts_open
tag_table = refl

-- {"@version":1.1,"@vocab":"http://l/","contains":{"@container":"@set","@type":"@id"},"creator":{"@id":"dc:creator","@type":"@id"},"dc":"http://purl.org/dc/terms/"}
abbrev pub library : JsonValue
library =
    map_of ((codes "@version", fraction)
    ∷ (codes "@vocab", text (codes "http://l/"))
    ∷ (
      codes "contains",
      map_of
          ((codes "@container", text (codes "@set")) ∷ (codes "@type", text (codes "@id")) ∷ []),
    )
    ∷ (
      codes "creator",
      map_of
          ((codes "@id", text (codes "dc:creator")) ∷ (codes "@type", text (codes "@id")) ∷ []),
    )
    ∷ (codes "dc", text (codes "http://purl.org/dc/terms/"))
    ∷ [])

abbrev pub library_terms : TermTable
library_terms =
    record (table_with (record (plain_term (codes "contains") (codes "http://l/contains")) { coercion = Some (codes "@id"); container = Set }
    ∷ record (plain_term (codes "creator") (codes "http://purl.org/dc/terms/creator"))
    { coercion = Some (codes "@id") }
    ∷ record (plain_term (codes "dc") (codes "http://purl.org/dc/terms/")) { prefix = true }
    ∷ [])) { vocab = Some (codes "http://l/") }

pub library_table : table_of library ≡ Ok library_terms
unfolding contexts_open
library_table = refl

-- {"label":{"@container":"@language","@id":"http://e/label"}}
abbrev pub label_terms : TermTable
label_terms = table_with
    (record (plain_term (codes "label") (codes "http://e/label")) { container = Language } ∷ [])

pub label_table :
    table_of (map_of ((
      codes "label",
      map_of ((codes "@container", text (codes "@language"))
          ∷ (codes "@id", text (codes "http://e/label")) ∷ []),
    ) ∷ [])) ≡ Ok label_terms
unfolding contexts_open
label_table = refl

-- [{"a":"http://e/a"},null,{"@language":"EN","b":{"@reverse":"p:q"},"p":"http://e/"}]
abbrev pub reset : JsonValue
reset =
    list_of (map_of ((codes "a", text (codes "http://e/a")) ∷ [])
    ∷ null
    ∷ map_of ((codes "@language", text (codes "EN"))
    ∷ (codes "b", map_of ((codes "@reverse", text (codes "p:q")) ∷ []))
    ∷ (codes "p", text (codes "http://e/"))
    ∷ [])
    ∷ [])

abbrev pub reset_terms : TermTable
reset_terms =
    record (table_with (record (plain_term (codes "b") (codes "http://e/q")) { reverse = true }
    ∷ record (plain_term (codes "p") (codes "http://e/")) { prefix = true }
    ∷ [])) { language = Some (codes "en") }

-- null empties the table, a reverse term needs its prefix, and a language is in small letters
pub reset_table : table_of reset ≡ Ok reset_terms
unfolding contexts_open
reset_table = refl

-- {"@foo":"x","@type":{"@container":"@set"}}: a key of a keyword's form is ignored
pub type_set_table :
    table_of (map_of ((codes "@foo", text (codes "x"))
    ∷ (codes "@type", map_of ((codes "@container", text (codes "@set")) ∷ [])) ∷ []))
    ≡ Ok (record empty_table { type_set = true })
unfolding contexts_open
type_set_table = refl

-- a term, a compact IRI, a text under the vocabulary mapping, an absolute IRI, a blank node
-- identifier and an authority
pub creator_expanded :
    expand library_terms (codes "creator") true ≡ Some (codes "http://purl.org/dc/terms/creator")
unfolding contexts_open
creator_expanded = refl

pub title_expanded :
    expand library_terms (codes "dc:title") true ≡ Some (codes "http://purl.org/dc/terms/title")
unfolding contexts_open
title_expanded = refl

pub book_expanded : expand library_terms (codes "Book") true ≡ Some (codes "http://l/Book")
unfolding contexts_open
book_expanded = refl

pub absolute_expanded : expand library_terms (codes "urn:x") true ≡ Some (codes "urn:x")
unfolding contexts_open
absolute_expanded = refl

pub blank_expanded : expand library_terms (codes "_:b") true ≡ Some (codes "_:b")
unfolding contexts_open
blank_expanded = refl

pub authority_expanded : expand library_terms (codes "dc://x") true ≡ Some (codes "dc://x")
unfolding contexts_open
authority_expanded = refl

-- an id is no term, and a keyword's form alone gives nothing
pub id_unexpanded : expand library_terms (codes "creator") false ≡ Some (codes "creator")
unfolding contexts_open
id_unexpanded = refl

pub keyword_form_expanded : expand library_terms (codes "@creator") true ≡ None
unfolding contexts_open
keyword_form_expanded = refl
