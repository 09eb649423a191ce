-- A list whose first item is a list, with a type `rdf:List`, and whose second item is a node.
use Rattle.std.specs.Prelude.{◌≡◌, refl, List, [], ◌∷◌, codes, true}
use Rattle.lf_rdf.specs.declared.term.Term.{Term}
use Rattle.lf_rdf.specs.declared.term.Term.TheVariants.{Iri, Blank}
use Rattle.lf_rdf.specs.declared.quad.Quad.{Quad}
use Rattle.lf_rdf.specs.declared.question.GraphRef.TheVariants as graph
use Rattle.lf_rdf.specs.Vocabulary.{rdf_type, rdf_first, rdf_rest, rdf_nil, rdf_list, xsd_string}
use Rattle.lf_model.specs.ValueData.{literal, reference, list, values_of}
use Rattle.def_datasets.specs.Dataset.{is_dataset}
use Rattle.def_datasets.specs.Values.{value_of}
use Rattle.def_datasets.specs.Views.{keys}
use Rattle.def_datasets.specs.Worked.Words.{plain, quad, a, b, l, nil}

unfoldable pub c1 : Term
c1 = Blank (codes "c1")

unfoldable pub c2 : Term
c2 = Blank (codes "c2")

unfoldable pub d : Term
d = Blank (codes "d")

abbrev pub dataset : List Quad
dataset =
    quad a l c1 ∷ quad c1 rdf_first d ∷ quad c1 rdf_rest c2 ∷ quad c2 rdf_first b
    ∷ quad c2 rdf_rest nil
    ∷ quad d rdf_first (plain (codes "1"))
    ∷ quad d rdf_rest nil
    ∷ quad d rdf_type (Iri rdf_list)
    ∷ []

pub in_order : is_dataset dataset ≡ true
unfolding a b l nil c1 c2 d rdf_type rdf_first rdf_rest rdf_nil rdf_list xsd_string
in_order = refl

pub list_in_list : value_of dataset graph.Default c1
    ≡ list (values_of (list (values_of (literal (plain (codes "1")) ∷ [])) ∷ reference b ∷ []))
unfolding a b l nil c1 c2 d rdf_type rdf_first rdf_rest rdf_nil rdf_list xsd_string
list_in_list = refl

pub keys_are : keys dataset graph.Default ≡ a ∷ b ∷ []
unfolding a b l nil c1 c2 d rdf_type rdf_first rdf_rest rdf_nil rdf_list xsd_string
keys_are = refl
