-- One quad in a named graph.
use Rattle.std.specs.Prelude.{◌≡◌, refl, List, [], ◌∷◌, codes, Some, None}
use Rattle.lf_rdf.specs.declared.quad.Quad.{Quad}
use Rattle.lf_rdf.specs.declared.question.GraphRef.TheVariants as graph
use Rattle.lf_rdf.specs.Vocabulary.{rdf_type, rdf_first, rdf_rest, rdf_nil, rdf_list, xsd_string}
use Rattle.lf_model.specs.ValueData.{literal}
use Rattle.def_datasets.specs.Terms.{terms, names}
use Rattle.def_datasets.specs.Views.{view_of, keys}
use Rattle.def_datasets.specs.Worked.Words.{plain, quad_in, a, g, p}

abbrev pub dataset : List Quad
dataset = quad_in g a p (plain (codes "1")) ∷ []

pub terms_are : terms dataset ≡ a ∷ g ∷ []
unfolding a g p rdf_type rdf_first rdf_rest rdf_nil rdf_list xsd_string
terms_are = refl

pub names_are : names dataset ≡ g ∷ []
unfolding a g p rdf_type rdf_first rdf_rest rdf_nil rdf_list xsd_string
names_are = refl

-- the default graph has the name of the graph as its one key, without types or properties
pub default_keys : keys dataset graph.Default ≡ g ∷ []
unfolding a g p rdf_type rdf_first rdf_rest rdf_nil rdf_list xsd_string
default_keys = refl

pub default_view : view_of dataset graph.Default g ≡ Some record { id = g; types = []; props = [] }
unfolding a g p rdf_type rdf_first rdf_rest rdf_nil rdf_list xsd_string
default_view = refl

pub no_default_view : view_of dataset graph.Default a ≡ None
unfolding a g p rdf_type rdf_first rdf_rest rdf_nil rdf_list xsd_string
no_default_view = refl

pub graph_keys : keys dataset (graph.Named g) ≡ a ∷ []
unfolding a g p rdf_type rdf_first rdf_rest rdf_nil rdf_list xsd_string
graph_keys = refl

pub merged_keys : keys dataset graph.Merged ≡ a ∷ g ∷ []
unfolding a g p rdf_type rdf_first rdf_rest rdf_nil rdf_list xsd_string
merged_keys = refl

pub merged_view : view_of dataset graph.Merged a
    ≡ Some
    record {
      id = a;
      types = [];
      props = record { property = p; values = literal (plain (codes "1")) ∷ [] } ∷ [];
    }
unfolding a g p rdf_type rdf_first rdf_rest rdf_nil rdf_list xsd_string
merged_view = refl
