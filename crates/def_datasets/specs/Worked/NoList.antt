-- A list node that a second graph uses too, and one that is its own item.
use Rattle.std.specs.Prelude.{◌≡◌, refl, List, [], ◌∷◌, codes, true, Some}
use Rattle.lf_rdf.specs.declared.term.Term.{Term}
use Rattle.lf_rdf.specs.declared.term.Term.TheVariants.{Blank}
use Rattle.lf_rdf.specs.declared.quad.Quad.{Quad}
use Rattle.lf_rdf.specs.declared.question.GraphRef.TheVariants as graph
use Rattle.lf_rdf.specs.Vocabulary.{rdf_type, rdf_first, rdf_rest, rdf_nil, rdf_list, xsd_string}
use Rattle.lf_model.specs.ValueData.{literal, reference, list, no_values}
use Rattle.def_datasets.specs.Dataset.{is_dataset}
use Rattle.def_datasets.specs.Views.{view_of, keys}
use Rattle.def_datasets.specs.Worked.Words.{plain, quad, quad_in, a, b, g, l, nil}

unfoldable pub c : Term
c = Blank (codes "c")

-- used by `a` in the default graph and by `b` in the graph `g`
abbrev pub used_twice : List Quad
used_twice =
    quad a l c ∷ quad_in g b l c ∷ quad c rdf_first (plain (codes "1")) ∷ quad c rdf_rest nil ∷ []

pub in_order : is_dataset used_twice ≡ true
unfolding a b g l nil c rdf_type rdf_first rdf_rest rdf_nil rdf_list xsd_string
in_order = refl

pub head_is_a_node : view_of used_twice graph.Default a
    ≡ Some record
    { id = a; types = []; props = record { property = l; values = reference c ∷ [] } ∷ [] }
unfolding a b g l nil c rdf_type rdf_first rdf_rest rdf_nil rdf_list xsd_string
head_is_a_node = refl

pub node_of_one_item : view_of used_twice graph.Default c
    ≡ Some
    record {
      id = c;
      types = [];
      props =
          record { property = rdf_first; values = literal (plain (codes "1")) ∷ [] }
          ∷ record { property = rdf_rest; values = list no_values ∷ [] }
          ∷ [];
    }
unfolding a b g l nil c rdf_type rdf_first rdf_rest rdf_nil rdf_list xsd_string
node_of_one_item = refl

pub keys_by_default : keys used_twice graph.Default ≡ c ∷ a ∷ g ∷ []
unfolding a b g l nil c rdf_type rdf_first rdf_rest rdf_nil rdf_list xsd_string
keys_by_default = refl

pub keys_of_all : keys used_twice graph.Merged ≡ c ∷ a ∷ b ∷ g ∷ []
unfolding a b g l nil c rdf_type rdf_first rdf_rest rdf_nil rdf_list xsd_string
keys_of_all = refl

-- its own item: going back from it never reaches a node that isn't proper
abbrev pub own_item : List Quad
own_item = quad c rdf_first c ∷ quad c rdf_rest nil ∷ []

pub own_item_in_order : is_dataset own_item ≡ true
unfolding a b g l nil c rdf_type rdf_first rdf_rest rdf_nil rdf_list xsd_string
own_item_in_order = refl

pub own_item_is_a_node : view_of own_item graph.Merged c
    ≡ Some
    record {
      id = c;
      types = [];
      props =
          record { property = rdf_first; values = reference c ∷ [] }
          ∷ record { property = rdf_rest; values = list no_values ∷ [] }
          ∷ [];
    }
unfolding a b g l nil c rdf_type rdf_first rdf_rest rdf_nil rdf_list xsd_string
own_item_is_a_node = refl
