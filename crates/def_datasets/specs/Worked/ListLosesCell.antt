-- A list of three cells, and the same after its second cell got a further triple.
use Rattle.std.specs.Prelude.{◌≡◌, refl, List, [], ◌∷◌, codes, true, Some, None}
use Rattle.lf_rdf.specs.declared.term.Term.{Term}
use Rattle.lf_rdf.specs.declared.term.Term.TheVariants.{Blank}
use Rattle.lf_rdf.specs.declared.quad.Quad.{Quad}
use Rattle.lf_rdf.specs.declared.question.GraphRef.TheVariants as graph
use Rattle.lf_rdf.specs.Vocabulary.{rdf_type, rdf_first, rdf_rest, rdf_nil, rdf_list, xsd_string}
use Rattle.lf_model.specs.ValueData.{literal, reference, list, values_of}
use Rattle.def_datasets.specs.Dataset.{is_dataset, after}
use Rattle.def_datasets.specs.Views.{view_of, keys}
use Rattle.def_datasets.specs.Worked.Words.{plain, quad, added, a, l, x, nil}

unfoldable pub c1 : Term
c1 = Blank (codes "c1")

unfoldable pub c2 : Term
c2 = Blank (codes "c2")

unfoldable pub c3 : Term
c3 = Blank (codes "c3")

abbrev pub version_1 : List Quad
version_1 =
    quad a l c1
    ∷ quad c1 rdf_first (plain (codes "1"))
    ∷ quad c1 rdf_rest c2
    ∷ quad c2 rdf_first (plain (codes "2"))
    ∷ quad c2 rdf_rest c3
    ∷ quad c3 rdf_first (plain (codes "3"))
    ∷ quad c3 rdf_rest nil
    ∷ []

abbrev pub version_2 : List Quad
version_2 = after version_1 (added (quad c2 x (plain (codes "y"))) ∷ [])

pub in_order : is_dataset version_1 ≡ true
unfolding a l x nil c1 c2 c3 rdf_type rdf_first rdf_rest rdf_nil rdf_list xsd_string
in_order = refl

pub list_of_three : view_of version_1 graph.Default a
    ≡ Some
    record {
      id = a;
      types = [];
      props =
          record {
            property = l;
            values = list (values_of (literal (plain (codes "1")) ∷ literal (plain (codes "2"))
                ∷ literal (plain (codes "3")) ∷ [])) ∷ [];
          }
          ∷ [];
    }
unfolding a l x nil c1 c2 c3 rdf_type rdf_first rdf_rest rdf_nil rdf_list xsd_string
list_of_three = refl

pub keys_1 : keys version_1 graph.Default ≡ a ∷ []
unfolding a l x nil c1 c2 c3 rdf_type rdf_first rdf_rest rdf_nil rdf_list xsd_string
keys_1 = refl

-- with the further triple the second node is no list node, so the first isn't either; the third
-- begins a list of its own
pub in_order_2 : is_dataset version_2 ≡ true
unfolding a l x nil c1 c2 c3 rdf_type rdf_first rdf_rest rdf_nil rdf_list xsd_string
in_order_2 = refl

pub head_is_a_node : view_of version_2 graph.Default a
    ≡ Some record
    { id = a; types = []; props = record { property = l; values = reference c1 ∷ [] } ∷ [] }
unfolding a l x nil c1 c2 c3 rdf_type rdf_first rdf_rest rdf_nil rdf_list xsd_string
head_is_a_node = refl

pub first_node : view_of version_2 graph.Default c1
    ≡ Some
    record {
      id = c1;
      types = [];
      props =
          record { property = rdf_first; values = literal (plain (codes "1")) ∷ [] }
          ∷ record { property = rdf_rest; values = reference c2 ∷ [] }
          ∷ [];
    }
unfolding a l x nil c1 c2 c3 rdf_type rdf_first rdf_rest rdf_nil rdf_list xsd_string
first_node = refl

pub second_node : view_of version_2 graph.Default c2
    ≡ Some
    record {
      id = c2;
      types = [];
      props =
          record { property = x; values = literal (plain (codes "y")) ∷ [] }
          ∷ record { property = rdf_first; values = literal (plain (codes "2")) ∷ [] }
          ∷ record {
            property = rdf_rest;
            values = list (values_of (literal (plain (codes "3")) ∷ [])) ∷ [];
          }
          ∷ [];
    }
unfolding a l x nil c1 c2 c3 rdf_type rdf_first rdf_rest rdf_nil rdf_list xsd_string
second_node = refl

pub third_is_a_cell : view_of version_2 graph.Default c3 ≡ None
unfolding a l x nil c1 c2 c3 rdf_type rdf_first rdf_rest rdf_nil rdf_list xsd_string
third_is_a_cell = refl

pub keys_2 : keys version_2 graph.Default ≡ c1 ∷ c2 ∷ a ∷ []
unfolding a l x nil c1 c2 c3 rdf_type rdf_first rdf_rest rdf_nil rdf_list xsd_string
keys_2 = refl
