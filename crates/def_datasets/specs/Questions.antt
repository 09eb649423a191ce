-- The questions that are asked of a dataset: what each answers, and which quads touch it (RDF 1.1
-- Concepts, section 4).
use Rattle.std.specs.Prelude.{List, [], ◌∷◌, ◌++◌, Bool, true, ◌&&◌, if◌then◌else◌}
use Rattle.std.specs.List.{filter, flat_map, list_any}
use Rattle.lf_rdf.specs.declared.term.Term.{Term}
use Rattle.lf_rdf.specs.declared.quad.Quad.{Quad}
use Rattle.lf_rdf.specs.declared.question.GraphRef.{GraphRef}
use Rattle.lf_rdf.specs.declared.question.GraphRef.TheVariants as graph
use Rattle.lf_rdf.specs.declared.question.Question.{Question}
use Rattle.lf_rdf.specs.declared.question.Question.TheVariants as ask
use Rattle.lf_rdf.specs.declared.question.Answer.{Answer}
use Rattle.lf_rdf.specs.declared.question.Answer.TheVariants.{Quads, Flag, Terms}
use Rattle.lf_rdf.specs.Equality.{term_eq}
use Rattle.def_datasets.specs.Sorted as sorted
use Rattle.def_datasets.specs.Order.{id_cmp}
use Rattle.def_datasets.specs.Terms.{is_node, tells_type, lies_in, triples, names, is_use, uses}

-- the quads of a graph with this subject
abbrev pub out : List Quad → GraphRef → Term → List Quad
out dataset g subject = filter (λ q. lies_in g q && term_eq q.subject subject) dataset

-- the quads of all graphs with this subject
abbrev pub out_any : List Quad → Term → List Quad
out_any dataset subject = filter (λ q. term_eq q.subject subject) dataset

-- the quads of a graph with this predicate and object
abbrev pub inward : List Quad → GraphRef → Term → Term → List Quad
inward dataset g predicate object =
    filter (λ q. lies_in g q && (term_eq q.predicate predicate && term_eq q.object object)) dataset

-- the quads of all graphs with this predicate and object
abbrev pub inward_any : List Quad → Term → Term → List Quad
inward_any dataset predicate object =
    filter (λ q. term_eq q.predicate predicate && term_eq q.object object) dataset

-- whether a quad lies in the graph of this name
abbrev pub named : List Quad → Term → Bool
named dataset name = list_any (lies_in (graph.Named name)) dataset

-- the IRI and blank nodes that a quad puts into its graph: its subject, and its object unless it
-- tells a type
abbrev pub nodes_in : Quad → List Term
nodes_in q = filter is_node (q.subject ∷ (if tells_type q then [] else q.object ∷ []))

-- the graph names that belong to a graph: the default graph has all of them
abbrev pub names_in : List Quad → GraphRef → List Term
names_in dataset graph.Default = names dataset
names_in dataset (graph.Named name) = []
names_in dataset graph.Merged = names dataset

-- the nodes of a graph, each once, in order of their ids
abbrev pub members : List Quad → GraphRef → List Term
members dataset g =
    sorted.set_of id_cmp (flat_map nodes_in (triples dataset g) ++ names_in dataset g)

-- the answer of a dataset to a question
abbrev pub answer : List Quad → Question → Answer
answer dataset (ask.Out g subject) = Quads (out dataset g subject)
answer dataset (ask.OutAny subject) = Quads (out_any dataset subject)
answer dataset (ask.Inward g predicate object) = Quads (inward dataset g predicate object)
answer dataset (ask.InwardAny predicate object) = Quads (inward_any dataset predicate object)
answer dataset (ask.Uses object) = Quads (uses dataset object)
answer dataset (ask.Named name) = Flag (named dataset name)
answer dataset (ask.Members g) = Terms (members dataset g)

-- which quads touch the nodes of a graph: those of the graph, and every quad for the default graph
abbrev pub touches_members : Quad → GraphRef → Bool
touches_members q graph.Default = true
touches_members q (graph.Named name) = lies_in (graph.Named name) q
touches_members q graph.Merged = true

-- whether a quad touches a question
abbrev pub touches : Quad → Question → Bool
touches q (ask.Out g subject) = lies_in g q && term_eq q.subject subject
touches q (ask.OutAny subject) = term_eq q.subject subject
touches q (ask.Inward g predicate object) =
    lies_in g q && (term_eq q.predicate predicate && term_eq q.object object)
touches q (ask.InwardAny predicate object) =
    term_eq q.predicate predicate && term_eq q.object object
touches q (ask.Uses object) = is_use object q
touches q (ask.Named name) = lies_in (graph.Named name) q
touches q (ask.Members g) = touches_members q g

-- The answers to all questions as functions: what cells, views and framing are defined over, so
-- that they speak of answers and of nothing else of the dataset.
pub record Answers : Type 0 where
  pub out : GraphRef → Term → List Quad
  pub out_any : Term → List Quad
  pub inward : GraphRef → Term → Term → List Quad
  pub inward_any : Term → Term → List Quad
  pub uses : Term → List Quad
  pub named : Term → Bool
  pub members : GraphRef → List Term

-- the answers of a dataset
abbrev pub answers_of : List Quad → Answers
answers_of dataset =
    record {
      out = out dataset;
      out_any = out_any dataset;
      inward = inward dataset;
      inward_any = inward_any dataset;
      uses = uses dataset;
      named = named dataset;
      members = members dataset;
    }

-- the answer to one question out of all answers
abbrev pub reply : Answers → Question → Answer
reply answers (ask.Out g subject) = Quads (answers.out g subject)
reply answers (ask.OutAny subject) = Quads (answers.out_any subject)
reply answers (ask.Inward g predicate object) = Quads (answers.inward g predicate object)
reply answers (ask.InwardAny predicate object) = Quads (answers.inward_any predicate object)
reply answers (ask.Uses object) = Quads (answers.uses object)
reply answers (ask.Named name) = Flag (answers.named name)
reply answers (ask.Members g) = Terms (answers.members g)
