-- Statements and lines (RDF 1.1 N-Quads, section 2 and appendix A), with the sign of a patch.
use Rattle.std.specs.Prelude.{◌≡◌, ◌⊎◌, ℕ, Bool, true, false, List, [], ◌∷◌, Option, Some, None}
use Rattle.lf_base.specs.Ascii as ch
use Rattle.lf_rdf.specs.declared.term.Term.{Term}
use Rattle.lf_rdf.specs.declared.term.Term.TheVariants.{Iri, Blank, Literal}
use Rattle.lf_rdf.specs.declared.quad.Quad.{Quad}
use Rattle.lf_rdf.specs.declared.quad.Signed.{Signed}
use Rattle.lf_rdf.specs.Vocabulary.{xsd_string, rdf_lang_string}
use Rattle.def_patch_texts.specs.Terminals.{Allowed, IsSpace, IsIri, IsBlank, IsString, IsTag}

-- subject ::= IRIREF | BLANK_NODE_LABEL, and so is a graph label
abbrev pub IsNode : Allowed → List ℕ → Term → List ℕ → Type 0
IsNode allowed text (Iri iri) rest = IsIri allowed text iri rest
IsNode allowed text (Blank label) rest = IsBlank text label rest
IsNode allowed text (Literal value datatype language) rest = ⊥

-- `^^` and an IRI
pub record IsTyped (allowed : Allowed) (text datatype rest : List ℕ) : Type 0 where
  pub carets : List ℕ
  pub iri : List ℕ
  pub before : IsSpace text (ch.caret ∷ ch.caret ∷ carets)
  pub between : IsSpace carets iri
  pub names : IsIri allowed iri datatype rest

-- a language tag
pub record IsTagged (text language rest : List ℕ) : Type 0 where
  pub tag : List ℕ
  pub before : IsSpace text tag
  pub names : IsTag tag language rest

-- literal ::= STRING_LITERAL_QUOTE ('^^' IRIREF | LANGTAG)?, here behind its string
abbrev pub IsSuffix : Allowed → List ℕ → List ℕ → Option (List ℕ) → List ℕ → Type 0
IsSuffix allowed text datatype None rest =
    ((datatype ≡ xsd_string) × (text ≡ rest)) ⊎ IsTyped allowed text datatype rest
IsSuffix allowed text datatype (Some language) rest =
    (datatype ≡ rdf_lang_string) × IsTagged text language rest

-- object ::= IRIREF | BLANK_NODE_LABEL | literal
abbrev pub IsObject : Allowed → List ℕ → Term → List ℕ → Type 0
IsObject allowed text (Iri iri) rest = IsIri allowed text iri rest
IsObject allowed text (Blank label) rest = IsBlank text label rest
IsObject allowed text (Literal value datatype language) rest =
    (suffix : List ℕ) × IsString allowed text value suffix
    × IsSuffix allowed suffix datatype language rest

-- the graph label, where there is one, and the dot
abbrev pub IsGraph : Allowed → List ℕ → Option Term → List ℕ → Type 0
IsGraph allowed text None rest = IsSpace text (ch.dot ∷ rest)
IsGraph allowed text (Some name) rest =
    (label : List ℕ) × (dot : List ℕ) × IsSpace text label × IsNode allowed label name dot
    × IsSpace dot (ch.dot ∷ rest)

-- spaces, and a comment or nothing
abbrev pub IsRest : List ℕ → Type 0
IsRest text = IsSpace text [] ⊎ ((comment : List ℕ) × IsSpace text (ch.hash ∷ comment))

-- statement ::= subject predicate object graphLabel? '.', and an optional comment
pub record IsStatement (allowed : Allowed) (text : List ℕ) (quad : Quad) : Type 0 where
  pub subject : List ℕ
  pub after_subject : List ℕ
  pub predicate : List ℕ
  pub after_predicate : List ℕ
  pub object : List ℕ
  pub after_object : List ℕ
  pub rest : List ℕ
  pub iri : List ℕ
  pub before_subject : IsSpace text subject
  pub has_subject : IsNode allowed subject quad.subject after_subject
  pub before_predicate : IsSpace after_subject predicate
  pub has_predicate : IsIri allowed predicate iri after_predicate
  pub predicate_is : quad.predicate ≡ Iri iri
  pub before_object : IsSpace after_predicate object
  pub has_object : IsObject allowed object quad.object after_object
  pub has_graph : IsGraph allowed after_object quad.graph rest
  pub ends : IsRest rest

-- The sign `+` or `-` and one space, or no sign, which means `+`.
abbrev pub IsSign : List ℕ → Bool → List ℕ → Type 0
IsSign text true rest = (text ≡ rest) ⊎ (text ≡ ch.plus ∷ ch.space ∷ rest)
IsSign text false rest = text ≡ ch.hyphen ∷ ch.space ∷ rest

-- A line of these characters states a signed quad, or is skipped.
abbrev pub IsLineOf : Allowed → List ℕ → Option Signed → Type 0
IsLineOf allowed text None = IsRest text
IsLineOf allowed text (Some signed) =
    (statement : List ℕ) × IsSign text signed.add statement
    × IsStatement allowed statement signed.quad
