-- What a call of embedding gave, as it is learnt by asking, and the terms that its questions are
-- near (JSON-LD 1.1 Framing, section 4.2.3).
use Rattle.std.specs.Prelude.{◌⊎◌, List, ℕ, Bool, ◌&&◌, not, Option, IfSome, IsTrue}
use Rattle.std.specs.List.{list_all, list_any}
use Rattle.lf_rdf.specs.declared.term.Term.{Term}
use Rattle.lf_rdf.specs.declared.quad.Quad.{Quad}
use Rattle.lf_rdf.specs.declared.question.GraphRef.{GraphRef}
use Rattle.lf_rdf.specs.declared.question.Question.{Question}
use Rattle.lf_rdf.specs.Equality.{term_eq}
use Rattle.lf_oracle.specs.Asking.{Learns}
use Rattle.lf_oracle.specs.Nearby.{IsOfNode, NamesGraph}
use Rattle.lf_match.specs.NearNodes.{IsNearOneBy, PropertiesRefer}
use Rattle.def_datasets.specs.Near.{NearQuestion}
use Rattle.def_datasets.specs.Terms.{is_blank, is_node}
use Rattle.def_datasets.specs.Views.{View, ViewProperty}
use Rattle.def_framing.specs.Results.{Result}
use Rattle.def_framing.specs.Views.{Views, of_dataset}

-- the predicates of some quads are IRIs, as in every RDF dataset
abbrev pub has_iri_predicates : List Quad → Bool
has_iri_predicates dataset =
    list_all (λ q. is_node q.predicate && not (is_blank q.predicate)) dataset

-- a question is near one of these terms, for the properties of some `@reverse` maps
abbrev pub IsNearBy : List Quad → List (List ℕ) → (Term → Type 0) → Question → Type 0
IsNearBy dataset reversed Is question =
    IsTrue (has_iri_predicates dataset) → IsNearOneBy dataset reversed Is question

-- a question is near a term, for a frame
abbrev pub IsNearTo : List Quad → List (List ℕ) → Term → Question → Type 0
IsNearTo dataset reversed origin question =
    IsTrue (has_iri_predicates dataset) → NearQuestion dataset reversed origin question

-- what was made, where something was, is learnt: every dataset gives it that answers the questions
-- alike
pub record Embeds {A : Type 0} (dataset : List Quad) (before after : Option (List Question))
    (first last : ℕ) (reversed : List (List ℕ)) (Is : Term → Type 0) (comes : Views → Result A)
    (made : Option (Result A)) : Type 0 where
  pub gained :
      IfSome made (λ r.
      Learns (IsNearBy dataset reversed Is) dataset before after first last
      (λ other. comes (of_dataset other)) r)

-- a term is the node, a node that its view refers to, or names the graph
abbrev pub IsOfNodeOrView : GraphRef → Term → View → Term → Type 0
IsOfNodeOrView g id view x = IsOfNode g id x ⊎ PropertiesRefer view.props x

-- a term is a node that one of these properties refers to, or names the graph
abbrev pub IsOfProps : GraphRef → List ViewProperty → Term → Type 0
IsOfProps g props x = PropertiesRefer props x ⊎ NamesGraph g x

-- a term is one of these keys, or names the graph
abbrev pub IsOfKeys : GraphRef → List Term → Term → Type 0
IsOfKeys g keys x = IsTrue (list_any (term_eq x) keys) ⊎ NamesGraph g x
