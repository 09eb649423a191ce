-- Places, and what a walk through a tree has embedded and output so far.
use Rattle.std.specs.Prelude.{List, [], ℕ, Bool}
use Rattle.lf_rdf.specs.declared.term.Term.{Term}
use Rattle.lf_rdf.specs.declared.term.Term.TheVariants.{Iri, Blank, Literal}
use Rattle.lf_rdf.specs.declared.question.GraphRef.{GraphRef}
use Rattle.lf_rdf.specs.declared.question.GraphRef.TheVariants as graph
use Rattle.lf_embed.specs.declared.place.Place.{Place}
use Rattle.def_framing.specs.Views as framing
use Rattle.def_framing.specs.Views.{place_eq}

-- the place that a place of the program stands for
abbrev pub place_data : Place → framing.Place
place_data place = record { graph = place.graph; id = place.id }

-- two places are one
abbrev pub same_place : Place → Place → Bool
same_place one two = place_eq (place_data one) (place_data two)

-- the text by which a term, and the name of a graph, are hashed
abbrev pub term_text : Term → List ℕ
term_text (Iri iri) = iri
term_text (Blank label) = label
term_text (Literal lexical datatype language) = lexical

abbrev pub graph_text : GraphRef → List ℕ
graph_text graph.Default = []
graph_text (graph.Named name) = term_text name
graph_text graph.Merged = []
