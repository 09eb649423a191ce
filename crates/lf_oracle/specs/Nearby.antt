-- Which terms the questions of a call are near, for a frame without `@reverse` (JSON-LD 1.1
-- Framing, section 4.1).
use Rattle.std.specs.Prelude.{◌≡◌, ◌⊎◌, ⊤, List, [], IsTrue}
use Rattle.std.specs.List.{list_any}
use Rattle.lf_rdf.specs.declared.quad.Quad.{Quad}
use Rattle.lf_rdf.specs.declared.term.Term.{Term}
use Rattle.lf_rdf.specs.declared.question.GraphRef.{GraphRef}
use Rattle.lf_rdf.specs.declared.question.GraphRef.TheVariants as graph
use Rattle.lf_rdf.specs.declared.question.Question.{Question}
use Rattle.lf_rdf.specs.Equality.{term_eq}
use Rattle.def_datasets.specs.Near.{NearQuestion}
use Rattle.def_datasets.specs.Questions.{inward, members}

-- a question is near one of these terms
abbrev pub IsNearOne : List Quad → (Term → Type 0) → Question → Type 0
IsNearOne dataset Is question = (x : Term) × (Is x × NearQuestion dataset [] x question)

-- a term is the name
abbrev pub IsNamed : Term → Term → Type 0
IsNamed name x = x ≡ name

-- a term names the graph
abbrev pub NamesGraph : GraphRef → Term → Type 0
NamesGraph graph.Default x = ⊥
NamesGraph (graph.Named name) x = x ≡ name
NamesGraph graph.Merged x = ⊥

-- a term is the node, or names the graph in which it is seen
abbrev pub IsOfNode : GraphRef → Term → Term → Type 0
IsOfNode g id x = (x ≡ id) ⊎ NamesGraph g x

-- a term is the node that is pointed at, the subject of a quad that points at it, or names the
-- graph
abbrev pub IsPointing : List Quad → GraphRef → Term → Term → Term → Type 0
IsPointing dataset g property id x =
    IsOfNode g id x ⊎ IsTrue (list_any (λ q. term_eq q.subject x) (inward dataset g property id))

-- a term is a node of the graph, or names it
abbrev pub IsMember : List Quad → GraphRef → Term → Type 0
IsMember dataset g x = NamesGraph g x ⊎ IsTrue (list_any (term_eq x) (members dataset g))

-- the questions for the keys of a named graph are near its members; those for the keys of other
-- graphs may be about any term
abbrev pub IsNearMembers : List Quad → GraphRef → Question → Type 0
IsNearMembers dataset graph.Default question = ⊤
IsNearMembers dataset (graph.Named name) question =
    IsNearOne dataset (IsMember dataset (graph.Named name)) question
IsNearMembers dataset graph.Merged question = ⊤
