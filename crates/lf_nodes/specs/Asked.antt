-- Questions that are answered by terms, and the question for what points at an object.
use Rattle.std.specs.Prelude.{◌≡◌, List, [], Bool, true, false}
use Rattle.lf_rdf.specs.declared.term.Term.{Term}
use Rattle.lf_rdf.specs.declared.question.GraphRef.{GraphRef}
use Rattle.lf_rdf.specs.declared.question.GraphRef.TheVariants as graph
use Rattle.lf_rdf.specs.declared.question.Question.{Question}
use Rattle.lf_rdf.specs.declared.question.Question.TheVariants as ask
use Rattle.lf_rdf.specs.declared.question.Answer.{Answer}
use Rattle.lf_rdf.specs.declared.question.Answer.TheVariants.{Flag, Quads, Terms}

abbrev pub asks_terms : Question → Bool
asks_terms (ask.Out g subject) = false
asks_terms (ask.OutAny subject) = false
asks_terms (ask.Inward g predicate object) = false
asks_terms (ask.InwardAny predicate object) = false
asks_terms (ask.Uses object) = false
asks_terms (ask.Named name) = false
asks_terms (ask.Members g) = true

-- the terms of an answer that has them
abbrev pub terms_in : Answer → List Term
terms_in (Flag flag) = []
terms_in (Quads quads) = []
terms_in (Terms terms) = terms

-- the question for the quads with a predicate and an object, of one graph or of all
abbrev pub inward_question : GraphRef → Term → Term → Question
inward_question graph.Default predicate object = ask.Inward graph.Default predicate object
inward_question (graph.Named name) predicate object = ask.Inward (graph.Named name) predicate object
inward_question graph.Merged predicate object = ask.InwardAny predicate object

abbrev pub IsInward : Question → GraphRef → Term → Term → Type 0
IsInward question g predicate object = question ≡ inward_question g predicate object
