-- What a node view of the program says, as the definitions of views speak of it (JSON-LD 1.1
-- Framing, section 4.1).
use Rattle.std.specs.Prelude.{List, [], map}
use Rattle.lf_rdf.specs.declared.quad.Quad.{Quad}
use Rattle.lf_rdf.specs.declared.term.Term.{Term}
use Rattle.lf_rdf.specs.declared.term.Term.TheVariants.{Iri, Blank, Literal}
use Rattle.lf_rdf.specs.declared.question.GraphRef.{GraphRef}
use Rattle.lf_model.specs.declared.value.NodeView.{NodeView}
use Rattle.lf_model.specs.declared.value.Prop.{Prop}
use Rattle.lf_model.specs.ValueBridge.{value_data}
use Rattle.def_datasets.specs.Views.{View, ViewProperty, pointing}

-- a property and the data of its values
abbrev pub property_data : Prop → ViewProperty
property_data p = record { property = p.property; values = map value_data p.values }

abbrev pub view_data : NodeView → View
view_data v = record { id = v.id; types = v.types; props = map property_data v.props }

-- the keys that point at a node under a property; a property is an IRI
abbrev pub pointing_at : List Quad → GraphRef → Term → Term → List Term
pointing_at dataset g (Iri property) node = pointing dataset g property node
pointing_at dataset g (Blank label) node = []
pointing_at dataset g (Literal lexical datatype language) node = []
