-- Expansion gives back what was compacted (JSON-LD 1.1 Processing Algorithms and API, sections 5.2
-- and 6.2).
use Rattle.std.specs.Prelude.{◌≡◌, ◌≢◌, List, [], ◌∷◌, ℕ, Bool, true, false, Some, Contains}
use Rattle.lf_base.specs.Ascii as ch
use Rattle.lf_rdf.specs.Equality.{text_eq}
use Rattle.lf_model.specs.declared.table.TermTable.{TermTable}
use Rattle.lf_model.specs.declared.table.TermDef.{TermDef}
use Rattle.def_contexts.specs.Keywords.{has_keyword_form}
use Rattle.def_contexts.specs.Texts.{after_colon, begins_authority, has_byte, has_later_colon, is_absolute}
use Rattle.def_contexts.specs.Expansion.{expand, find_term}
use Rattle.def_selection.specs.declared.pick.Pick.{Pick}
use Rattle.def_selection.specs.Iris.{short}
use Rattle.def_selection.specs.Laws.{IsCompactFor, IsRestFor}

-- a table as contexts make them: a term is found by its name, which hasn't the form of a keyword,
-- and a prefix has a name without a colon; and no prefix is named `_`, which would write the ids of
-- blank nodes
pub record IsOrdinary (table : TermTable) : Type 0 where
  pub found :
      (term : TermDef) → Contains table.terms term → find_term term.name table.terms ≡ Some term
  pub no_form : (term : TermDef) → Contains table.terms term → has_keyword_form term.name ≡ false
  pub prefix_name :
      (term : TermDef) → Contains table.terms term → term.prefix ≡ true → term.name ≢ []
  pub no_colon :
      (term : TermDef) → Contains table.terms term → term.prefix ≡ true →
      has_byte ch.colon term.name ≡ false
  pub no_blank :
      (term : TermDef) → Contains table.terms term → term.prefix ≡ true →
      text_eq term.name (ch.underscore ∷ []) ≡ false

-- the three ways in which a compacted IRI can be read as something else don't hold: a rest behind
-- the vocabulary mapping has a colon or the form of a keyword, `//` follows the colon of a compact
-- IRI, or the IRI itself is the name of a term of another IRI
pub record IsPlain (table : TermTable) (iri text : List ℕ) : Type 0 where
  pub no_colon : IsRestFor table iri text → has_later_colon text ≡ false
  pub no_form : IsRestFor table iri text → has_keyword_form text ≡ false
  pub no_authority :
      IsCompactFor table iri text → begins_authority (after_colon text) ≡ true → text ≡ iri
  pub own_term :
      text ≡ iri → (term : TermDef) → find_term text table.terms ≡ Some term → term.iri ≡ Some iri

abbrev pub ExpansionGivesBack : Type 0
ExpansionGivesBack =
    (table : TermTable) (iri : List ℕ) (vocab : Bool) (pick : Pick) (text : List ℕ) →
    IsOrdinary table
    → is_absolute iri ≡ true → short table iri vocab pick ≡ Some text → IsPlain table iri text
    → expand table text vocab ≡ Some iri
