-- Questions near one term, and those that are answered by quads.
use Rattle.std.specs.Prelude.{List, [], Bool, true, false}
use Rattle.lf_rdf.specs.declared.term.Term.{Term}
use Rattle.lf_rdf.specs.declared.quad.Quad.{Quad}
use Rattle.lf_rdf.specs.declared.question.Question.{Question}
use Rattle.lf_rdf.specs.declared.question.Question.TheVariants as ask
use Rattle.lf_rdf.specs.declared.question.Answer.{Answer}
use Rattle.lf_rdf.specs.declared.question.Answer.TheVariants.{Flag, Quads, Terms}
use Rattle.def_datasets.specs.Near.{NearQuestion}

-- a question is near a term, for a frame without `@reverse` (JSON-LD 1.1 Framing, section 4.1)
abbrev pub NearTo : List Quad → Term → Question → Type 0
NearTo dataset x question = NearQuestion dataset [] x question

-- a question that is answered by quads
abbrev pub asks_quads : Question → Bool
asks_quads (ask.Out g subject) = true
asks_quads (ask.OutAny subject) = true
asks_quads (ask.Inward g predicate object) = true
asks_quads (ask.InwardAny predicate object) = true
asks_quads (ask.Uses object) = true
asks_quads (ask.Named name) = false
asks_quads (ask.Members g) = false

-- the quads of an answer that has them
abbrev pub quads_in : Answer → List Quad
quads_in (Flag flag) = []
quads_in (Quads quads) = quads
quads_in (Terms terms) = []
