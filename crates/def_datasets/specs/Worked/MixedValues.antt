-- Types in order of their ids, values in order of their canonical texts, and a literal under
-- `rdf:type` as a property.
use Rattle.std.specs.Prelude.{◌≡◌, refl, List, [], ◌∷◌, codes, Some}
use Rattle.lf_rdf.specs.declared.term.Term.{Term}
use Rattle.lf_rdf.specs.declared.term.Term.TheVariants.{Iri, Blank}
use Rattle.lf_rdf.specs.declared.quad.Quad.{Quad}
use Rattle.lf_rdf.specs.declared.question.GraphRef.TheVariants as graph
use Rattle.lf_rdf.specs.Vocabulary.{rdf_type, rdf_first, rdf_rest, rdf_nil, rdf_list, xsd_string}
use Rattle.lf_model.specs.ValueData.{literal, reference, list, no_values}
use Rattle.def_datasets.specs.Dataset.{dataset_of}
use Rattle.def_datasets.specs.Views.{view_of, keys, pointing}
use Rattle.def_datasets.specs.Worked.Words.{plain, quad, quad_in, a, b, g, l, p, nil}

unfoldable pub c : Term
c = Blank (codes "c")

unfoldable pub shape : Term
shape = Iri (codes "http://e/T")

abbrev pub dataset : List Quad
dataset =
    dataset_of
    (quad a p c ∷ quad a p (plain (codes "z")) ∷ quad a p b ∷ quad a p nil ∷ quad a rdf_type shape ∷ quad a rdf_type c
    ∷ quad a rdf_type (plain (codes "T"))
    ∷ quad a l b
    ∷ quad_in g a p (plain (codes "a"))
    ∷ quad_in g a p b
    ∷ [])

pub default_view : view_of dataset graph.Default a
    ≡ Some
    record {
      id = a;
      types = c ∷ shape ∷ [];
      props =
          record { property = l; values = reference b ∷ [] }
          ∷ record {
            property = p;
            values =
                literal (plain (codes "z")) ∷ reference b ∷ list no_values ∷ reference c ∷ [];
          }
          ∷ record { property = rdf_type; values = literal (plain (codes "T")) ∷ [] }
          ∷ [];
    }
unfolding a b g l p nil c shape rdf_type rdf_first rdf_rest rdf_nil rdf_list xsd_string
default_view = refl

-- in the merged graph the values of both graphs stand once each
pub merged_view : view_of dataset graph.Merged a
    ≡ Some
    record {
      id = a;
      types = c ∷ shape ∷ [];
      props =
          record { property = l; values = reference b ∷ [] }
          ∷ record {
            property = p;
            values =
                literal (plain (codes "a")) ∷ literal (plain (codes "z")) ∷ reference b
                ∷ list no_values ∷ reference c ∷ [];
          }
          ∷ record { property = rdf_type; values = literal (plain (codes "T")) ∷ [] }
          ∷ [];
    }
unfolding a b g l p nil c shape rdf_type rdf_first rdf_rest rdf_nil rdf_list xsd_string
merged_view = refl

-- `T` is a type alone and so no key; `rdf:nil` is none either
pub keys_are : keys dataset graph.Default ≡ c ∷ a ∷ b ∷ g ∷ []
unfolding a b g l p nil c shape rdf_type rdf_first rdf_rest rdf_nil rdf_list xsd_string
keys_are = refl

pub pointing_at_b : pointing dataset graph.Default l b ≡ a ∷ []
unfolding a b g l p nil c shape rdf_type rdf_first rdf_rest rdf_nil rdf_list xsd_string
pointing_at_b = refl
