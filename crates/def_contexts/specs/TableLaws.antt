-- Laws of term tables.
use Rattle.std.specs.Prelude.{◌≡◌, List, [], ◌∷◌, ℕ, Bool, true, not, ◌&&◌, ◌||◌, Option, Some, None, Ok, IsTrue, codes}
use Rattle.std.specs.List.{list_all}
use Rattle.std.specs.Ordering.{is_lt, nat_cmp}
use Rattle.std.specs.Cmp.Lexicographic.{slice_cmp}
use Rattle.lf_model.specs.declared.table.TermTable.{TermTable}
use Rattle.lf_model.specs.declared.table.TermDef.{TermDef}
use Rattle.lf_model.specs.JsonData.{JsonValue}
use Rattle.lf_rdf.specs.Equality.{text_eq}
use Rattle.def_contexts.specs.Keywords.{is_keyword, has_keyword_form}
use Rattle.def_contexts.specs.Texts.{is_absolute, is_empty}
use Rattle.def_contexts.specs.Expansion.{find_term, expand}
use Rattle.def_contexts.specs.Table.{table_of}

-- the name of a term stands before another's, in byte order
abbrev pub is_before : TermDef → TermDef → Bool
is_before d e = is_lt (slice_cmp nat_cmp d.name e.name)

-- each term stands before all later ones
abbrev pub ascends : List TermDef → Bool
ascends [] = true
ascends (d ∷ rest) = list_all (is_before d) rest && ascends rest

-- a name of a term: it isn't empty, is no keyword and hasn't the form of one
abbrev pub is_term_name : List ℕ → Bool
is_term_name name = not (is_empty name) && not (is_keyword name) && not (has_keyword_form name)

-- an IRI of a term: none, a keyword other than `@context`, or an absolute IRI
abbrev pub is_term_iri : Option (List ℕ) → Bool
is_term_iri None = true
is_term_iri (Some iri) = (is_keyword iri && not (text_eq iri (codes "@context"))) || is_absolute iri

abbrev pub is_sound_term : TermDef → Bool
is_sound_term d = is_term_name d.name && is_term_iri d.iri

abbrev pub is_absolute_or_none : Option (List ℕ) → Bool
is_absolute_or_none None = true
is_absolute_or_none (Some iri) = is_absolute iri

-- the terms of a table are in byte order without repeats
abbrev pub TermsAscend : Type 0
TermsAscend = (context : JsonValue) (table : TermTable) → table_of context ≡ Ok table →
    IsTrue (ascends table.terms)

-- the terms of a table have names that are no keywords, and stand for keywords other than
-- `@context`, absolute IRIs or nothing
abbrev pub TermsAreSound : Type 0
TermsAreSound =
    (context : JsonValue) (table : TermTable) → table_of context ≡ Ok table →
    IsTrue (list_all is_sound_term table.terms)

-- the vocabulary mapping of a table is absolute
abbrev pub VocabIsAbsolute : Type 0
VocabIsAbsolute =
    (context : JsonValue) (table : TermTable) → table_of context ≡ Ok table →
    IsTrue (is_absolute_or_none table.vocab)

-- each term of a context's table expands with `vocab` to its IRI
abbrev pub TableTermsGiveTheirIri : Type 0
TableTermsGiveTheirIri =
    (context : JsonValue) (table : TermTable) (name : List ℕ) (d : TermDef) →
    table_of context ≡ Ok table →
    find_term name table.terms ≡ Some d → expand table name true ≡ d.iri
