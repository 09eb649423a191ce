-- The terms near a term: those that its framing may speak of (JSON-LD 1.1 Framing, section 4.1).
use Rattle.std.specs.Prelude.{◌≡◌, List, [], ◌∷◌, ℕ, Some, IsTrue}
use Rattle.std.specs.List.{list_any}
use Rattle.lf_rdf.specs.declared.term.Term.{Term}
use Rattle.lf_rdf.specs.declared.quad.Quad.{Quad}
use Rattle.lf_rdf.specs.declared.question.GraphRef.TheVariants as graph
use Rattle.lf_rdf.specs.declared.question.Question.{Question}
use Rattle.lf_rdf.specs.declared.question.Question.TheVariants as ask
use Rattle.def_datasets.specs.Dataset.{holds}
use Rattle.def_datasets.specs.Terms.{is_node, is_blank, is_iri, uses}

-- the least set that holds a term and is closed under these steps, for the properties of the
-- `@reverse` maps of a frame
pub data Near (dataset : List Quad) (reversed : List (List ℕ)) (origin : Term) : Term → Type 0 where
  -- the term itself
  itself : Near dataset reversed origin origin
  -- the object of a quad with a near subject
  by_object :
      (q : Quad) → IsTrue (holds dataset q) → Near dataset reversed origin q.subject →
      Near dataset reversed origin q.object
  -- the subject of the one use of a near blank node
  by_use :
      (s : Term) (q : Quad) → IsTrue (is_blank s) → uses dataset s ≡ q ∷ [] →
      Near dataset reversed origin s → Near dataset reversed origin q.subject
  -- the subject of a quad with a near object, where a `@reverse` has its predicate
  by_reverse :
      (q : Quad) → IsTrue (holds dataset q) →
      IsTrue (list_any (λ iri. is_iri iri q.predicate) reversed) →
      Near dataset reversed origin q.object → Near dataset reversed origin q.subject
  -- the IRI and blank subjects and objects of a graph with a near name
  in_graph :
      (name : Term) (q : Quad) → IsTrue (holds dataset q) → q.graph ≡ Some name →
      Near dataset reversed origin name → IsTrue (is_node q.subject) →
      Near dataset reversed origin q.subject
  in_graph_object :
      (name : Term) (q : Quad) → IsTrue (holds dataset q) → q.graph ≡ Some name →
      Near dataset reversed origin name → IsTrue (is_node q.object) →
      Near dataset reversed origin q.object

-- a question is near where its node, object or name is; the nodes of the default graph are near no
-- term
abbrev pub NearQuestion : List Quad → List (List ℕ) → Term → Question → Type 0
NearQuestion dataset reversed origin (ask.Out g subject) = Near dataset reversed origin subject
NearQuestion dataset reversed origin (ask.OutAny subject) = Near dataset reversed origin subject
NearQuestion dataset reversed origin (ask.Inward g predicate object) =
    Near dataset reversed origin object
NearQuestion dataset reversed origin (ask.InwardAny predicate object) =
    Near dataset reversed origin object
NearQuestion dataset reversed origin (ask.Uses object) = Near dataset reversed origin object
NearQuestion dataset reversed origin (ask.Named name) = Near dataset reversed origin name
NearQuestion dataset reversed origin (ask.Members graph.Default) = ⊥
NearQuestion dataset reversed origin (ask.Members (graph.Named name)) =
    Near dataset reversed origin name
NearQuestion dataset reversed origin (ask.Members graph.Merged) = ⊥
