-- Terms and quads that their canonical texts tell apart (RDF 1.1 N-Quads, sections 2 and 4). Those
-- that a text of N-Quads holds are such: an IRI has no `>`, labels and language tags have no space,
-- and a literal with a language tag has the datatype `rdf:langString`.
use Rattle.std.specs.Prelude.{◌≡◌, List, [], ◌∷◌, ℕ, nat_eq, Bool, true, false, ◌&&◌, not, Option, Some, None, IsTrue}
use Rattle.std.specs.List.{list_all}
use Rattle.lf_base.specs.Ascii as ch
use Rattle.lf_rdf.specs.declared.term.Term.{Term}
use Rattle.lf_rdf.specs.declared.term.Term.TheVariants.{Iri, Blank, Literal}
use Rattle.lf_rdf.specs.declared.quad.Quad.{Quad}
use Rattle.lf_rdf.specs.Vocabulary.{rdf_lang_string}
use Rattle.lf_rdf.specs.Equality.{text_eq}
use Rattle.lf_rdf.specs.Canonical.{id_of, term_text, line}
use Rattle.def_datasets.specs.Order.{text_cmp, id_cmp, term_cmp, quad_cmp}

-- a text without this byte
abbrev pub lacks : ℕ → List ℕ → Bool
lacks byte = list_all (λ b. not (nat_eq b byte))

abbrev pub legible_term : Term → Bool
legible_term (Iri iri) = lacks ch.greater iri
legible_term (Blank label) = lacks ch.space label
legible_term (Literal lexical datatype None) = lacks ch.greater datatype
legible_term (Literal lexical datatype (Some language)) =
    text_eq datatype rdf_lang_string && lacks ch.space language

abbrev pub legible_label : Option Term → Bool
legible_label None = true
legible_label (Some name) = legible_term name

abbrev pub legible : Quad → Bool
legible q =
    legible_term q.subject
    && (legible_term q.predicate && (legible_term q.object && legible_label q.graph))

-- two legible terms of one canonical text, and two legible quads of one canonical line, are one
abbrev pub TextsTellTerms : Type 0
TextsTellTerms =
    (s t : Term) → IsTrue (legible_term s) → IsTrue (legible_term t) → term_text s ≡ term_text t →
    s ≡ t

abbrev pub LinesTellQuads : Type 0
LinesTellQuads = (q r : Quad) → IsTrue (legible q) → IsTrue (legible r) → line q ≡ line r → q ≡ r

-- legible terms and quads are in order of their canonical texts and lines alone
abbrev pub TextsOrderTerms : Type 0
TextsOrderTerms =
    (s t : Term) → IsTrue (legible_term s) → IsTrue (legible_term t)
    → term_cmp s t ≡ text_cmp (term_text s) (term_text t)

abbrev pub LinesOrderQuads : Type 0
LinesOrderQuads =
    (q r : Quad) → IsTrue (legible q) → IsTrue (legible r) →
    quad_cmp q r ≡ text_cmp (line q) (line r)

-- an IRI that doesn't begin with `_`, as no IRI with a scheme does, or a blank node
abbrev pub begins_otherwise : List ℕ → Bool
begins_otherwise [] = true
begins_otherwise (b ∷ rest) = not (nat_eq b ch.underscore)

abbrev pub has_own_id : Term → Bool
has_own_id (Iri iri) = begins_otherwise iri
has_own_id (Blank label) = true
has_own_id (Literal lexical datatype language) = false

-- such nodes are told apart by their ids, and in order of them alone
abbrev pub IdsTellNodes : Type 0
IdsTellNodes =
    (s t : Term) → IsTrue (has_own_id s) → IsTrue (has_own_id t) → id_of s ≡ id_of t → s ≡ t

abbrev pub IdsOrderNodes : Type 0
IdsOrderNodes =
    (s t : Term) → IsTrue (has_own_id s) → IsTrue (has_own_id t) →
    id_cmp s t ≡ text_cmp (id_of s) (id_of t)
