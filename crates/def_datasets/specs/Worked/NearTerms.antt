-- Terms near the subject of a list: its cells; and near a named graph's name: what stands in the
-- graph.
use Rattle.std.specs.Prelude.{refl, [], ◌∷◌, codes}
use Rattle.lf_rdf.specs.declared.question.GraphRef.TheVariants as graph
use Rattle.lf_rdf.specs.declared.question.Question.TheVariants as ask
use Rattle.lf_rdf.specs.Vocabulary.{rdf_type, rdf_first, rdf_rest, rdf_nil, xsd_string}
use Rattle.def_datasets.specs.Near.{Near, NearQuestion, itself, by_object, by_use, by_reverse, in_graph, in_graph_object}
use Rattle.def_datasets.specs.Worked.Words.{plain, quad, quad_in, a, b, g, l, p, nil}
use Rattle.def_datasets.specs.Worked.ListLosesCell as cells
use Rattle.def_datasets.specs.Worked.NamedGraph as graphs

pub first_cell : Near cells.version_1 [] a cells.c1
unfolding a l nil cells.c1 cells.c2 cells.c3 rdf_first rdf_rest rdf_nil xsd_string
first_cell = by_object (quad a l cells.c1) refl itself

pub second_cell : Near cells.version_1 [] a cells.c2
unfolding a l nil cells.c1 cells.c2 cells.c3 rdf_first rdf_rest rdf_nil xsd_string
second_cell = by_object (quad cells.c1 rdf_rest cells.c2) refl first_cell

-- back from a cell to the node that uses it
pub user_of_cell : Near cells.version_1 [] cells.c1 a
unfolding a l nil cells.c1 cells.c2 cells.c3 rdf_type rdf_first rdf_rest rdf_nil xsd_string
user_of_cell = by_use cells.c1 (quad a l cells.c1) refl refl itself

pub uses_are_near : NearQuestion cells.version_1 [] a (ask.Uses cells.c2)
uses_are_near = second_cell

pub node_of_graph : Near graphs.dataset [] g a
unfolding a g p xsd_string
node_of_graph = in_graph g (quad_in g a p (plain (codes "1"))) refl refl itself refl

pub members_are_near : NearQuestion graphs.dataset [] g (ask.Members (graph.Named g))
members_are_near = itself

-- what stands under a type in the graph is near its name too
pub type_of_graph : Near (quad_in g a rdf_type b ∷ []) [] g b
unfolding a b g rdf_type
type_of_graph = in_graph_object g (quad_in g a rdf_type b) refl refl itself refl

-- back from an object to a subject, by a property of a `@reverse`
pub pointing_back : Near (quad a p b ∷ quad g p b ∷ []) (l ∷ p ∷ []) b g
unfolding a b g l p
pointing_back = by_reverse (quad g p b) refl refl itself
