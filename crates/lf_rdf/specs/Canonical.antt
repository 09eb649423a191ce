-- Ids and canonical lines (RDF 1.1 N-Quads, section 4: the canonical form of N-Quads).
use Rattle.std.specs.Prelude.{List, [], ◌∷◌, ◌++◌, ℕ, nat_eq, Option, Some, None, if◌then◌else◌}
use Rattle.lf_base.specs.Ascii as ch
use Rattle.lf_rdf.specs.declared.term.Term.{Term}
use Rattle.lf_rdf.specs.declared.term.Term.TheVariants.{Iri, Blank, Literal}
use Rattle.lf_rdf.specs.declared.quad.Quad.{Quad}
use Rattle.lf_rdf.specs.Vocabulary.{xsd_string}
use Rattle.lf_rdf.specs.Equality.{text_eq}

-- the id of a node: its IRI, or `_:` and its label; a literal has none
abbrev pub id_of : Term → List ℕ
id_of (Iri iri) = iri
id_of (Blank label) = ch.underscore ∷ ch.colon ∷ label
id_of (Literal _ _ _) = []

-- one character of a string: the quote, the backslash, LF and CR are escaped, and nothing else
abbrev pub escaped_byte : ℕ → List ℕ
escaped_byte b =
    if nat_eq b ch.quote then ch.backslash ∷ ch.quote ∷ []
    else if nat_eq b ch.backslash then ch.backslash ∷ ch.backslash ∷ []
    else if nat_eq b ch.line_feed then ch.backslash ∷ ch.letter_n ∷ []
    else if nat_eq b ch.carriage_return then ch.backslash ∷ ch.letter_r ∷ []
    else b ∷ []

abbrev pub escaped : List ℕ → List ℕ
escaped [] = []
escaped (b ∷ rest) = escaped_byte b ++ escaped rest

-- an IRI in angle brackets
abbrev pub bracketed : List ℕ → List ℕ
bracketed iri = ch.less ∷ iri ++ ch.greater ∷ []

-- a string in quotes
abbrev pub quoted : List ℕ → List ℕ
quoted text = ch.quote ∷ escaped text ++ ch.quote ∷ []

-- what follows the string of a literal: its tag, or a datatype other than `xsd:string`
abbrev pub suffix_of : List ℕ → Option (List ℕ) → List ℕ
suffix_of datatype (Some language) = ch.at_sign ∷ language
suffix_of datatype None = if text_eq datatype xsd_string then [] else ch.caret ∷ ch.caret ∷ bracketed datatype

-- the canonical text of a term
abbrev pub term_text : Term → List ℕ
term_text (Iri iri) = bracketed iri
term_text (Blank label) = ch.underscore ∷ ch.colon ∷ label
term_text (Literal lexical datatype language) = quoted lexical ++ suffix_of datatype language

-- a space and the graph label, where there is one
abbrev pub label_text : Option Term → List ℕ
label_text (Some name) = ch.space ∷ term_text name
label_text None = []

-- the canonical line of a quad, without its line end
abbrev pub line : Quad → List ℕ
line q =
    term_text q.subject ++ ch.space ∷ term_text q.predicate ++ ch.space ∷ term_text q.object ++ label_text q.graph ++ ch.space ∷ ch.dot ∷ []
