-- The terms and quads that lines of the grammar state.
use Rattle.std.specs.Prelude.{◌≡◌, ℕ, IsTrue, IsUtf8, List, Option, Some, None}
use Rattle.std.specs.List.{list_all}
use Rattle.lf_rdf.specs.declared.term.Term.{Term}
use Rattle.lf_rdf.specs.declared.term.Term.TheVariants.{Iri, Blank, Literal}
use Rattle.lf_rdf.specs.declared.quad.Quad.{Quad}
use Rattle.lf_rdf.specs.Vocabulary.{rdf_lang_string}
use Rattle.def_patch_texts.specs.Characters.{is_absolute, is_iri_char, is_label, is_tag, lower}
use Rattle.def_patch_texts.specs.PatchText.{IsEncoded}

-- an absolute IRI of characters that may stand raw
pub record IsGivenIri (iri : List ℕ) : Type 0 where
  pub characters : List ℕ
  pub encoded : IsEncoded iri characters
  pub raw : IsTrue (list_all is_iri_char characters)
  pub absolute : IsTrue (is_absolute characters)

-- a label of a blank node
pub record IsGivenLabel (label : List ℕ) : Type 0 where
  pub characters : List ℕ
  pub encoded : IsEncoded label characters
  pub fits : IsTrue (is_label characters)

-- the datatype of a literal and its language, which is in lower case
abbrev pub IsGivenType : List ℕ → Option (List ℕ) → Type 0
IsGivenType datatype None = IsGivenIri datatype
IsGivenType datatype (Some language) =
    (datatype ≡ rdf_lang_string) × IsTrue (is_tag language) × (lower language ≡ language)

abbrev pub IsGivenTerm : Term → Type 0
IsGivenTerm (Iri iri) = IsGivenIri iri
IsGivenTerm (Blank label) = IsGivenLabel label
IsGivenTerm (Literal value datatype language) = IsUtf8 value × IsGivenType datatype language

-- a subject or a graph label
abbrev pub IsGivenNode : Term → Type 0
IsGivenNode (Iri iri) = IsGivenIri iri
IsGivenNode (Blank label) = IsGivenLabel label
IsGivenNode (Literal value datatype language) = ⊥

abbrev pub IsGivenPredicate : Term → Type 0
IsGivenPredicate (Iri iri) = IsGivenIri iri
IsGivenPredicate (Blank label) = ⊥
IsGivenPredicate (Literal value datatype language) = ⊥

abbrev pub IsGivenGraph : Option Term → Type 0
IsGivenGraph None = Unit {0}
IsGivenGraph (Some name) = IsGivenNode name

-- a quad that some line of the grammar states
pub record IsGiven (quad : Quad) : Type 0 where
  pub subject : IsGivenNode quad.subject
  pub predicate : IsGivenPredicate quad.predicate
  pub object : IsGivenTerm quad.object
  pub graph : IsGivenGraph quad.graph
