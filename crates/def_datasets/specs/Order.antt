-- The orders of terms and quads: by UTF-8 bytes of ids, of canonical texts and of canonical lines
-- (RDF 1.1 N-Quads, section 4). Terms that no text can hold may share an id or a line; then their
-- parts decide, so that each order is total and tells any two apart.
use Rattle.std.specs.Prelude.{List, [], ◌∷◌, ℕ, Option, Some, None}
use Rattle.std.specs.declared.cmp.Ordering.{Ordering}
use Rattle.std.specs.Ordering.{nat_cmp, on, then_cmp}
use Rattle.std.specs.Cmp.Lexicographic.{slice_cmp}
use Rattle.lf_rdf.specs.declared.term.Term.{Term}
use Rattle.lf_rdf.specs.declared.term.Term.TheVariants.{Iri, Blank, Literal}
use Rattle.lf_rdf.specs.declared.quad.Quad.{Quad}
use Rattle.lf_rdf.specs.Canonical.{id_of, term_text, line}

-- texts by their bytes
abbrev pub text_cmp : List ℕ → List ℕ → Ordering
text_cmp = slice_cmp nat_cmp

abbrev pub parts_cmp : List (List ℕ) → List (List ℕ) → Ordering
parts_cmp = slice_cmp text_cmp

-- the kind of a term and its texts
abbrev pub term_parts : Term → List (List ℕ)
term_parts (Iri iri) = (0 ∷ []) ∷ iri ∷ []
term_parts (Blank label) = (1 ∷ []) ∷ label ∷ []
term_parts (Literal lexical datatype None) = (2 ∷ []) ∷ lexical ∷ datatype ∷ []
term_parts (Literal lexical datatype (Some language)) =
    (3 ∷ []) ∷ lexical ∷ datatype ∷ language ∷ []

-- a graph label's parts; the default graph has none
abbrev pub label_parts : Option Term → List (List ℕ)
label_parts None = []
label_parts (Some name) = term_parts name

-- terms in order of their ids
abbrev pub id_cmp : Term → Term → Ordering
id_cmp = then_cmp (on id_of text_cmp) (on term_parts parts_cmp)

-- terms in order of their canonical texts
abbrev pub term_cmp : Term → Term → Ordering
term_cmp = then_cmp (on term_text text_cmp) (on term_parts parts_cmp)

-- quads by their parts
abbrev pub parts_order : Quad → Quad → Ordering
parts_order =
    then_cmp (on (λ q. term_parts q.subject) parts_cmp)
    (then_cmp (on (λ q. term_parts q.predicate) parts_cmp)
    (then_cmp (on (λ q. term_parts q.object) parts_cmp) (on (λ q. label_parts q.graph) parts_cmp)))

-- quads in order of their canonical lines
abbrev pub quad_cmp : Quad → Quad → Ordering
quad_cmp = then_cmp (on line text_cmp) parts_order
