-- The words of the worked cases.
use Rattle.std.specs.Prelude.{List, ℕ, codes, Some, None, true, false}
use Rattle.lf_rdf.specs.declared.term.Term.{Term}
use Rattle.lf_rdf.specs.declared.term.Term.TheVariants.{Iri, Literal}
use Rattle.lf_rdf.specs.declared.quad.Quad.{Quad}
use Rattle.lf_rdf.specs.declared.quad.Signed.{Signed}
use Rattle.lf_rdf.specs.Vocabulary.{xsd_string, rdf_nil}

-- a plain string
abbrev pub plain : List ℕ → Term
plain lexical = Literal lexical xsd_string None

-- a quad of the default graph and one of a named graph
abbrev pub quad : Term → List ℕ → Term → Quad
quad subject predicate object =
    record { subject = subject; predicate = Iri predicate; object = object; graph = None }

abbrev pub quad_in : Term → Term → List ℕ → Term → Quad
quad_in name subject predicate object =
    record { subject = subject; predicate = Iri predicate; object = object; graph = Some name }

abbrev pub added : Quad → Signed
added q = record { add = true; quad = q }

abbrev pub deleted : Quad → Signed
deleted q = record { add = false; quad = q }

unfoldable pub a : Term
a = Iri (codes "http://e/a")

unfoldable pub b : Term
b = Iri (codes "http://e/b")

unfoldable pub g : Term
g = Iri (codes "http://e/g")

unfoldable pub p : List ℕ
p = codes "http://e/p"

unfoldable pub l : List ℕ
l = codes "http://e/l"

unfoldable pub x : List ℕ
x = codes "http://e/x"

unfoldable pub nil : Term
nil = Iri rdf_nil
