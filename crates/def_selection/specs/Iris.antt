-- Compaction of IRIs and keywords (JSON-LD 1.1 Processing Algorithms and API, section 6.2: IRI
-- compaction).
use Rattle.std.specs.Prelude.{List, [], ◌∷◌, ◌++◌, ℕ, nat_eq, nat_lt, Bool, true, false, not, ◌&&◌, ◌||◌, Option, Some, None, if◌then◌else◌, length, filter, filter_map, drop, is_some, unwrap_or, option_map}
use Rattle.std.specs.List.{list_any, starts_with}
use Rattle.std.specs.Option.{option_or}
use Rattle.lf_base.specs.Ascii as ch
use Rattle.lf_rdf.specs.declared.term.Term.{Term}
use Rattle.lf_rdf.specs.declared.term.Term.TheVariants.{Iri, Blank, Literal}
use Rattle.lf_rdf.specs.Canonical.{id_of}
use Rattle.lf_rdf.specs.Equality.{text_eq}
use Rattle.lf_model.specs.declared.table.TermTable.{TermTable}
use Rattle.lf_model.specs.declared.table.TermDef.{TermDef}
use Rattle.lf_model.specs.declared.table.Container.TheVariants as container
use Rattle.def_contexts.specs.Keywords.{is_keyword}
use Rattle.def_contexts.specs.Texts.{after_colon, before_colon, begins_authority, is_absolute}
use Rattle.def_contexts.specs.Expansion.{find_term}
use Rattle.def_selection.specs.declared.pick.Pick.{Pick}
use Rattle.def_selection.specs.declared.pick.PickKind.TheVariants.{TypeKind}
use Rattle.def_selection.specs.Keywords.{at_any, at_id, at_none}
use Rattle.def_selection.specs.Chosen.{chosen, least, stands_for}

-- the pick of an IRI alone: of a type, a datatype or a keyword
abbrev pub no_value : Pick
no_value = record {
  containers = container.Set ∷ container.NoContainer ∷ [];
  kind = TypeKind;
  preferred = at_id ∷ at_none ∷ at_any ∷ [];
  has_value = false;
}

-- the term of this name
abbrev pub term_named : TermTable → List ℕ → Option TermDef
term_named table name = find_term name table.terms

-- what follows a start that is shorter than the text
abbrev pub rest_after : List ℕ → Option (List ℕ) → Option (List ℕ)
rest_after text None = None
rest_after text (Some start) =
    if starts_with nat_eq text start && nat_lt (length start) (length text)
    then Some (drop (length start) text) else None

-- a rest behind the vocabulary mapping is used where it is neither a term nor a keyword
abbrev pub unless_taken : TermTable → Option (List ℕ) → Option (List ℕ)
unless_taken table None = None
unless_taken table (Some rest) =
    if is_some (term_named table rest) || is_keyword rest then None else Some rest

abbrev pub by_vocab : TermTable → List ℕ → Option (List ℕ)
by_vocab table iri = unless_taken table (rest_after iri table.vocab)

-- the compact IRI that this term makes: its name, a colon and the rest of the IRI
abbrev pub compact_iri : List ℕ → TermDef → Option (List ℕ)
compact_iri iri term =
    if term.prefix then option_map (λ rest. term.name ++ ch.colon ∷ rest) (rest_after iri term.iri)
    else None

-- a compact IRI is used where it is no term, or, where there is no value, a term of this very IRI
abbrev pub is_free : List ℕ → Bool → Option TermDef → Bool
is_free iri has_value None = true
is_free iri has_value (Some term) = not has_value && stands_for iri term

-- the shortest compact IRI, then the least
abbrev pub by_prefix : TermTable → List ℕ → Bool → Option (List ℕ)
by_prefix table iri has_value =
    least (λ compact. length compact ∷ compact)
    (filter (λ compact. is_free iri has_value (term_named table compact))
    (filter_map (compact_iri iri) table.terms))

-- the IRI would be read as a compact one: its scheme is a prefix, and no `//` follows
abbrev pub is_confused : TermTable → List ℕ → Bool
is_confused table iri =
    is_absolute iri
    && list_any (λ term. text_eq term.name (before_colon iri) && term.prefix) table.terms
    && not (begins_authority (after_colon iri))

-- the compacted IRI, the first that there is of these; none is the error `IRI confused with prefix`
abbrev pub short : TermTable → List ℕ → Bool → Pick → Option (List ℕ)
short table iri vocab pick =
    option_or (if vocab then option_map (λ term. term.name) (chosen table iri pick) else None)
    (option_or (if vocab then by_vocab table iri else None)
    (option_or (by_prefix table iri pick.has_value)
    (if is_confused table iri then None else Some iri)))

-- a keyword's alias, else the keyword
abbrev pub short_keyword : TermTable → List ℕ → List ℕ
short_keyword table keyword =
    unwrap_or (option_map (λ term. term.name) (chosen table keyword no_value)) keyword

-- the compacted id of a node; the id of a blank node stays
abbrev pub short_node : TermTable → Bool → Term → Option (List ℕ)
short_node table vocab (Iri iri) = short table iri vocab no_value
short_node table vocab (Blank label) = Some (id_of (Blank label))
short_node table vocab (Literal lexical datatype language) = Some lexical
