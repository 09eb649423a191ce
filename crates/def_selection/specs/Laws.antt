-- Laws of chosen terms and compacted IRIs.
use Rattle.std.specs.Prelude.{◌≡◌, List, ◌∷◌, ◌++◌, ℕ, Bool, true, false, ◌⊎◌, Some, None, Contains}
use Rattle.lf_base.specs.Ascii as ch
use Rattle.lf_model.specs.declared.table.TermTable.{TermTable}
use Rattle.lf_model.specs.declared.table.TermDef.{TermDef}
use Rattle.def_contexts.specs.Keywords.{is_keyword}
use Rattle.def_contexts.specs.Texts.{begins_authority}
use Rattle.def_selection.specs.declared.pick.Pick.{Pick}
use Rattle.def_selection.specs.Slots.{slot, slots}
use Rattle.def_selection.specs.Chosen.{chosen, rank, ranks_less}
use Rattle.def_selection.specs.Iris.{short, term_named}

-- a term has the IRI, a container of the pick, and stands in one of the pick's slots
pub record Fitting (table : TermTable) (iri : List ℕ) (pick : Pick) (term : TermDef) : Type 0 where
  pub has_iri : term.iri ≡ Some iri
  pub in_container : Contains pick.containers term.container
  pub in_slot :
      (name : List ℕ) × Contains pick.preferred name
      × Contains (slots table term) (slot pick.kind name)

-- a chosen term is a term of the table that fits
abbrev pub ChosenFits : Type 0
ChosenFits =
    (table : TermTable) (iri : List ℕ) (pick : Pick) (term : TermDef) →
    chosen table iri pick ≡ Some term
    → Contains table.terms term × Fitting table iri pick term

-- no term of the table that fits ranks less than the chosen one
abbrev pub ChosenIsLeast : Type 0
ChosenIsLeast =
    (table : TermTable) (iri : List ℕ) (pick : Pick) (term other : TermDef) →
    chosen table iri pick ≡ Some term
    → Contains table.terms other → Fitting table iri pick other
    → ranks_less (rank table pick other) (rank table pick term) ≡ false

-- no term is chosen only where none fits
abbrev pub NoneFits : Type 0
NoneFits =
    (table : TermTable) (iri : List ℕ) (pick : Pick) (term : TermDef) → chosen table iri pick ≡ None
    → Contains table.terms term → ¬ Fitting table iri pick term

-- a text is the name of a term that stands for the IRI
pub record IsTermFor (table : TermTable) (iri text : List ℕ) : Type 0 where
  pub term : TermDef
  pub listed : Contains table.terms term
  pub has_iri : term.iri ≡ Some iri
  pub name : term.name ≡ text

-- the vocabulary mapping and a text are the IRI, and the text is neither a term nor a keyword
pub record IsRestFor (table : TermTable) (iri text : List ℕ) : Type 0 where
  pub start : List ℕ
  pub mapping : table.vocab ≡ Some start
  pub whole : start ++ text ≡ iri
  pub no_term : term_named table text ≡ None
  pub no_keyword : is_keyword text ≡ false

-- a text is a prefix, a colon and the rest of the IRI; a term of this name stands for the IRI
pub record IsCompactFor (table : TermTable) (iri text : List ℕ) : Type 0 where
  pub term : TermDef
  pub start : List ℕ
  pub rest : List ℕ
  pub listed : Contains table.terms term
  pub may_prefix : term.prefix ≡ true
  pub has_iri : term.iri ≡ Some start
  pub whole : start ++ rest ≡ iri
  pub written : term.name ++ ch.colon ∷ rest ≡ text
  pub own_term : (named : TermDef) → term_named table text ≡ Some named → named.iri ≡ Some iri

-- a compacted IRI is one of these, or the IRI itself; terms and the vocabulary mapping only where
-- the vocabulary counts
abbrev pub ShortTellsIri : Type 0
ShortTellsIri =
    (table : TermTable) (iri : List ℕ) (vocab : Bool) (pick : Pick) (text : List ℕ) →
    short table iri vocab pick ≡ Some text
    → ((vocab ≡ true) × (IsTermFor table iri text ⊎ IsRestFor table iri text))
    ⊎ (IsCompactFor table iri text ⊎ (text ≡ iri))

-- the error comes only for an IRI that reads as a compact one: a prefix, a colon, and no `//` after
-- it
abbrev pub OnlyConfused : Type 0
OnlyConfused =
    (table : TermTable) (iri : List ℕ) (vocab : Bool) (pick : Pick) →
    short table iri vocab pick ≡ None
    → (term : TermDef) × (rest : List ℕ) × Contains table.terms term × (term.prefix ≡ true)
    × (term.name ++ ch.colon ∷ rest ≡ iri) × (begins_authority rest ≡ false)
