-- What a scan passes.
use Rattle.std.specs.Prelude.{List, Bool, ◌&&◌, Option, Some, None, take_while}
use Rattle.std.specs.List.{flat_map}
use Rattle.lf_rdf.specs.declared.term.Term.{Term}
use Rattle.lf_rdf.specs.declared.quad.Quad.{Quad}
use Rattle.lf_rdf.specs.declared.question.GraphRef.{GraphRef}
use Rattle.lf_rdf.specs.declared.question.GraphRef.TheVariants as graph
use Rattle.lf_rdf.specs.declared.question.Question.{Question}
use Rattle.lf_rdf.specs.declared.question.Question.TheVariants as ask
use Rattle.lf_rdf.specs.Equality.{term_eq}
use Rattle.def_datasets.specs.Terms.{lies_in, is_use}
use Rattle.def_datasets.specs.Questions.{nodes_in}

-- the label of the quads of a graph
abbrev pub label_in : GraphRef → Option Term
label_in graph.Default = None
label_in (graph.Named name) = Some name
label_in graph.Merged = None

-- the quads that a scan passes: those that stand together in one of the orders
abbrev pub reaches : Question → Quad → Bool
reaches (ask.Out g subject) q = lies_in g q && term_eq q.subject subject
reaches (ask.OutAny subject) q = term_eq q.subject subject
reaches (ask.Inward g predicate object) q =
    lies_in g q && (term_eq q.predicate predicate && term_eq q.object object)
reaches (ask.InwardAny predicate object) q =
    term_eq q.predicate predicate && term_eq q.object object
reaches (ask.Uses object) q = is_use object q
reaches (ask.Named name) q = lies_in (graph.Named name) q
reaches (ask.Members g) q = lies_in g q

-- the quads of a scan
abbrev pub reached : Question → List Quad → List Quad
reached question quads = take_while (reaches question) quads

-- the nodes of the quads of a scan
abbrev pub nodes_reached : Question → List Quad → List Term
nodes_reached question quads = flat_map nodes_in (take_while (reaches question) quads)
