-- What changed between two versions: the quads that are in exactly one of both.
use Rattle.std.specs.Prelude.{List, [], ◌∷◌, ◌++◌, ℕ, Bool, true, false, not, ◌&&◌, drop, length, map, if◌then◌else◌}
use Rattle.std.specs.List.{filter, flat_map}
use Rattle.lf_rdf.specs.declared.quad.Quad.{Quad}
use Rattle.lf_rdf.specs.declared.quad.Signed.{Signed}
use Rattle.lf_rdf.specs.declared.term.Term.{Term}
use Rattle.lf_rdf.specs.declared.term.Term.TheVariants.{Iri, Blank, Literal}
use Rattle.lf_rdf.specs.Equality.{quad_eq}
use Rattle.def_datasets.specs.Sorted.{has}
use Rattle.def_datasets.specs.Dataset.{holds}
use Rattle.lf_versions.specs.declared.change.Change.{Change}

-- two quads are one
abbrev pub same_change : Change → Change → Bool
same_change one two = quad_eq one.quad two.quad

-- the text by which a term is hashed
abbrev pub term_text : Term → List ℕ
term_text (Iri iri) = iri
term_text (Blank label) = label
term_text (Literal lexical datatype language) = lexical

-- exactly one of two
abbrev pub one_of : Bool → Bool → Bool
one_of true b = not b
one_of false b = b

-- a quad is in exactly one of two datasets
abbrev pub differs : List Quad → List Quad → Quad → Bool
differs one two q = one_of (holds one q) (holds two q)

-- the quads that patches name, in order
abbrev pub named_in : List Signed → List Quad
named_in lines = map (λ (line : Signed). line.quad) lines

abbrev pub named : List (List Signed) → List Quad
named patches = flat_map named_in patches

-- a quad at the end, unless it is there
abbrev pub put_once : Quad → List Quad → List Quad
put_once q found = if has quad_eq found q then found else found ++ q ∷ []

-- the quads that pass a test, behind some that were found, each once
abbrev pub changes_behind : (Quad → Bool) → List Quad → List Quad → List Quad
changes_behind p found [] = found
changes_behind p found (q ∷ rest) = changes_behind p (if p q then put_once q found else found) rest

abbrev pub quads_of : List Change → List Quad
quads_of changes = map (λ (change : Change). change.quad) changes

-- each value stands once
abbrev pub is_once : List Quad → Bool
is_once [] = true
is_once (q ∷ rest) = not (has quad_eq rest q) && is_once rest
