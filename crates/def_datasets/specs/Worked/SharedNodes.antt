-- Nodes of several graphs, and nodes that are no keys.
use Rattle.std.specs.Prelude.{◌≡◌, refl, List, [], ◌∷◌, codes, Some}
use Rattle.lf_rdf.specs.declared.term.Term.{Term}
use Rattle.lf_rdf.specs.declared.term.Term.TheVariants.{Blank}
use Rattle.lf_rdf.specs.declared.quad.Quad.{Quad}
use Rattle.lf_rdf.specs.declared.question.GraphRef.TheVariants as graph
use Rattle.lf_rdf.specs.Vocabulary.{rdf_type, rdf_first, rdf_rest, rdf_nil, rdf_list, xsd_string}
use Rattle.lf_model.specs.ValueData.{literal, list, values_of}
use Rattle.def_datasets.specs.Dataset.{dataset_of}
use Rattle.def_datasets.specs.Views.{view_of, keys}
use Rattle.def_datasets.specs.Worked.Words.{plain, quad, quad_in, a, b, g, l, p, nil}

unfoldable pub c : Term
c = Blank (codes "c")

-- a list in a graph, whose cell has a triple and a type in the default graph too
abbrev pub list_in_graph : List Quad
list_in_graph =
    dataset_of
    (quad_in g a l c ∷ quad_in g c rdf_first (plain (codes "1")) ∷ quad_in g c rdf_rest nil ∷ quad c p (plain (codes "2"))
    ∷ quad c rdf_type b
    ∷ [])

pub keys_of_graph : keys list_in_graph (graph.Named g) ≡ a ∷ []
unfolding a b g l p nil c rdf_type rdf_first rdf_rest rdf_nil rdf_list xsd_string
keys_of_graph = refl

pub keys_of_default : keys list_in_graph graph.Default ≡ c ∷ g ∷ []
unfolding a b g l p nil c rdf_type rdf_first rdf_rest rdf_nil rdf_list xsd_string
keys_of_default = refl

pub keys_of_all : keys list_in_graph graph.Merged ≡ c ∷ a ∷ g ∷ []
unfolding a b g l p nil c rdf_type rdf_first rdf_rest rdf_nil rdf_list xsd_string
keys_of_all = refl

-- the merged view has nothing of the graph in which the node is a cell
pub cell_elsewhere : view_of list_in_graph graph.Merged c
    ≡ Some
    record {
      id = c;
      types = b ∷ [];
      props = record { property = p; values = literal (plain (codes "2")) ∷ [] } ∷ [];
    }
unfolding a b g l p nil c rdf_type rdf_first rdf_rest rdf_nil rdf_list xsd_string
cell_elsewhere = refl

pub list_of_graph : view_of list_in_graph graph.Merged a
    ≡ Some
    record {
      id = a;
      types = [];
      props =
          record { property = l; values = list (values_of (literal (plain (codes "1")) ∷ [])) ∷ [] }
          ∷ [];
    }
unfolding a b g l p nil c rdf_type rdf_first rdf_rest rdf_nil rdf_list xsd_string
list_of_graph = refl

-- `rdf:nil` is a key as a subject and as the name of a graph, and not as an object
pub nil_as_object : keys (quad a p nil ∷ []) graph.Default ≡ a ∷ []
unfolding a p nil rdf_type rdf_first rdf_rest rdf_nil rdf_list
nil_as_object = refl

pub nil_as_subject : keys (quad nil p a ∷ []) graph.Default ≡ a ∷ nil ∷ []
unfolding a p nil rdf_type rdf_first rdf_rest rdf_nil rdf_list
nil_as_subject = refl

pub nil_as_name : keys (quad_in nil a p a ∷ []) graph.Default ≡ nil ∷ []
unfolding a p nil rdf_type rdf_first rdf_rest rdf_nil rdf_list
nil_as_name = refl

-- a type is a key only of a graph in which it is something else too
pub type_elsewhere :
    keys (dataset_of (quad a rdf_type b ∷ quad_in g b p a ∷ [])) graph.Default ≡ a ∷ g ∷ []
unfolding a b g p rdf_type rdf_first rdf_rest rdf_nil rdf_list
type_elsewhere = refl

pub type_is_subject :
    keys (dataset_of (quad a rdf_type b ∷ quad_in g b p a ∷ [])) (graph.Named g) ≡ a ∷ b ∷ []
unfolding a b g p rdf_type rdf_first rdf_rest rdf_nil rdf_list
type_is_subject = refl
