-- What holds of the terms near a term.
use Rattle.std.specs.Prelude.{◌≡◌, List, [], ◌∷◌, ℕ, Bool, Some, IsTrue}
use Rattle.std.specs.List.{list_any}
use Rattle.lf_rdf.specs.declared.term.Term.{Term}
use Rattle.lf_rdf.specs.declared.quad.Quad.{Quad}
use Rattle.def_datasets.specs.Dataset.{holds}
use Rattle.def_datasets.specs.Terms.{is_node, is_blank, is_iri, uses}
use Rattle.def_datasets.specs.Near.{Near}

-- a set that the steps of nearness don't leave
pub record Closed (dataset : List Quad) (reversed : List (List ℕ)) (set : Term → Bool) :
    Type 0 where
  pub object :
      (q : Quad) → IsTrue (holds dataset q) → IsTrue (set q.subject) → IsTrue (set q.object)
  pub user :
      (s : Term) (q : Quad) → IsTrue (is_blank s) → uses dataset s ≡ q ∷ [] → IsTrue (set s) →
      IsTrue (set q.subject)
  pub reverse :
      (q : Quad) → IsTrue (holds dataset q) →
      IsTrue (list_any (λ iri. is_iri iri q.predicate) reversed)
      → IsTrue (set q.object) → IsTrue (set q.subject)
  pub in_graph :
      (name : Term) (q : Quad) → IsTrue (holds dataset q) → q.graph ≡ Some name → IsTrue (set name)
      → IsTrue (is_node q.subject) → IsTrue (set q.subject)
  pub in_graph_object :
      (name : Term) (q : Quad) → IsTrue (holds dataset q) → q.graph ≡ Some name → IsTrue (set name)
      → IsTrue (is_node q.object) → IsTrue (set q.object)

-- the near terms are in each such set that holds the term itself
abbrev pub NearIsLeast : Type 0
NearIsLeast =
    (dataset : List Quad) (reversed : List (List ℕ)) (origin : Term) (set : Term → Bool) →
    Closed dataset reversed set
    → IsTrue (set origin) → (t : Term) → Near dataset reversed origin t → IsTrue (set t)

-- what is near a near term is near
abbrev pub NearOfNear : Type 0
NearOfNear =
    (dataset : List Quad) (reversed : List (List ℕ)) (origin s t : Term) →
    Near dataset reversed origin s
    → Near dataset reversed s t → Near dataset reversed origin t
