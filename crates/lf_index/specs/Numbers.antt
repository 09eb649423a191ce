-- A number of a term's text. Terms are put in order by it first, so that most comparisons read two
-- numbers and no text.
use Rattle.std.specs.Prelude.{List, [], ◌∷◌, ℕ, ◌+◌, ◌*◌, ◌%◌}
use Rattle.lf_rdf.specs.declared.term.Term.{Term}
use Rattle.lf_rdf.specs.declared.term.Term.TheVariants.{Iri, Blank, Literal}

-- a number and one more byte
abbrev pub mix : ℕ → ℕ → ℕ
mix number byte = (number * 16777619 + byte) % 4294967296

-- a number and more bytes
unfoldable pub mixed : ℕ → List ℕ → ℕ
mixed number [] = number
mixed number (byte ∷ rest) = mixed (mix number byte) rest

-- the number of a term: that of its first text and its kind
abbrev pub number_of : Term → ℕ
number_of (Iri iri) = mixed 0 iri
number_of (Blank label) = mixed 1 label
number_of (Literal lexical datatype language) = mixed 2 lexical
