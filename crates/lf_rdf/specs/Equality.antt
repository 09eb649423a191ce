-- Equality of terms and quads as tests that compute (RDF 1.1 Concepts, section 3.3: terms are equal character by character).
use Rattle.std.specs.Prelude.{List, ℕ, nat_eq, Bool, true, false, ◌&&◌, Option, Some, None}
use Rattle.std.specs.Cmp.Lexicographic.{pointwise}
use Rattle.lf_rdf.specs.declared.term.Term.{Term}
use Rattle.lf_rdf.specs.declared.term.Term.TheVariants.{Iri, Blank, Literal}
use Rattle.lf_rdf.specs.declared.quad.Quad.{Quad}

-- two texts are one
abbrev pub text_eq : List ℕ → List ℕ → Bool
text_eq = pointwise nat_eq

-- two optional values are one, by a test of their values
abbrev pub option_eq : {A : Type 0} → (A → A → Bool) → Option A → Option A → Bool
option_eq same None None = true
option_eq same (Some x) (Some y) = same x y
option_eq same None (Some y) = false
option_eq same (Some x) None = false

-- two terms are one
abbrev pub term_eq : Term → Term → Bool
term_eq (Iri a) (Iri b) = text_eq a b
term_eq (Blank a) (Blank b) = text_eq a b
term_eq (Literal a d l) (Literal b e m) = text_eq a b && text_eq d e && option_eq text_eq l m
term_eq _ _ = false

-- two quads are one
abbrev pub quad_eq : Quad → Quad → Bool
quad_eq a b =
    term_eq a.subject b.subject && term_eq a.predicate b.predicate && term_eq a.object b.object
    && option_eq term_eq a.graph b.graph
