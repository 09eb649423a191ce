-- The quads that a view is made of, where there is one.
use Rattle.std.specs.Prelude.{◌≡◌, List, [], ◌∷◌, Bool, true, false, ◌&&◌, not, Option, Some, None}
use Rattle.std.specs.List.{list_any}
use Rattle.lf_rdf.specs.declared.term.Term.{Term}
use Rattle.lf_rdf.specs.declared.quad.Quad.{Quad}
use Rattle.lf_rdf.specs.declared.question.GraphRef.{GraphRef}
use Rattle.lf_rdf.specs.Vocabulary.{rdf_nil}
use Rattle.def_datasets.specs.Terms.{is_iri, lies_in, graph_of, uses}
use Rattle.def_datasets.specs.Questions.{answers_of, named}
use Rattle.def_datasets.specs.Cells.{enough, is_cell}
use Rattle.def_datasets.specs.Views.{is_default, is_key, quads_of}

abbrev pub kept_if : Bool → List Quad → Option (List Quad)
kept_if true quads = Some quads
kept_if false quads = None

-- the quads of a key that count in a graph
abbrev pub key_quads : List Quad → GraphRef → Term → Option (List Quad)
key_quads dataset g s =
    kept_if (is_key dataset g s) (quads_of (answers_of dataset) (enough dataset) g s)

-- a node is used in a graph, and isn't `rdf:nil`
abbrev pub used_in : List Quad → GraphRef → Term → Bool
used_in dataset g s = not (is_iri rdf_nil s) && list_any (lies_in g) (uses dataset s)

-- a name of a graph, for the default graph
abbrev pub names_in : List Quad → GraphRef → Term → Bool
names_in dataset g s = is_default g && named dataset s

-- a quad lies in the graph in which a node is a cell
abbrev pub at_home : Option GraphRef → Quad → Bool
at_home None q = false
at_home (Some g) q = lies_in g q

-- the one graph in which a node is a cell, if it is one
abbrev pub IsHome : List Quad → Term → Option GraphRef → Type 0
IsHome dataset s home = (q : Quad) → is_cell dataset (graph_of q) s ≡ at_home home q

-- a quad lies elsewhere
abbrev pub away : Option GraphRef → Quad → Bool
away home q = not (at_home home q)

-- a node is used elsewhere, and isn't `rdf:nil`
abbrev pub used_away : List Quad → Option GraphRef → Term → Bool
used_away dataset home s = not (is_iri rdf_nil s) && list_any (away home) (uses dataset s)

-- the one quad of a list
abbrev pub only_quad : List Quad → Option Quad
only_quad [] = None
only_quad (q ∷ []) = Some q
only_quad (q ∷ r ∷ rest) = None
