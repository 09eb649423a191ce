-- The quads of a view's properties in order, and what is gathered from them, property by property.
use Rattle.std.specs.Prelude.{◌≡◌, List, [], ℕ, map, Bool, IsTrue}
use Rattle.std.specs.List.{filter, list_any}
use Rattle.std.specs.declared.cmp.Ordering.{Ordering}
use Rattle.std.specs.Ordering.{eq_by_cmp, is_eq, on, then_cmp}
use Rattle.std.specs.Cmp.{IsTotalOrder, IsEquivalence}
use Rattle.std.proofs.lemmas.Cmp.{eq_by_cmp_equiv, on_total, then_total}
use Rattle.lf_rdf.specs.declared.term.Term.{Term}
use Rattle.lf_rdf.specs.declared.quad.Quad.{Quad}
use Rattle.lf_rdf.specs.Canonical.{id_of, term_text}
use Rattle.lf_rdf.specs.Equality.{text_eq, quad_eq}
use Rattle.lf_model.specs.ValueData.{ListValue}
use Rattle.def_datasets.specs.Sorted.{ascends, has}
use Rattle.def_datasets.specs.Order.{term_cmp, text_cmp}
use Rattle.def_datasets.specs.Dataset.{holds}
use Rattle.def_datasets.specs.Near.{Near}
use Rattle.def_datasets.specs.Terms.{graph_of}
use Rattle.def_datasets.specs.Values.{value_of}
use Rattle.def_datasets.specs.Views.{ViewProperty, properties_in, property_quads}
use Rattle.def_datasets.proofs.OrderLaws.{term_strict, text_strict}

-- a quad's property
abbrev pub property_of : Quad → List ℕ
property_of q = id_of q.predicate

-- quads by their properties, and then by their objects' canonical texts
abbrev pub entry_cmp : Quad → Quad → Ordering
entry_cmp = then_cmp (on property_of text_cmp) (on (λ q. q.object) term_cmp)

pub entry_total : IsTotalOrder entry_cmp
entry_total = then_total (on_total property_of text_strict.total)
    (on_total (λ (q : Quad). q.object) term_strict.total)

pub entry_equivalence : IsEquivalence (eq_by_cmp entry_cmp)
entry_equivalence = eq_by_cmp_equiv entry_total

-- the texts by which a quad is put in order
pub record IsEntry (property text : List ℕ) (q : Quad) : Type 0 where
  pub property_is : property ≡ id_of q.predicate
  pub text_is : text ≡ term_text q.object

-- a quad is one of a property
abbrev pub under : List ℕ → Quad → Bool
under property q = text_eq property (id_of q.predicate)

-- The quads of the properties of some quads, in order, one for each property and object. A test
-- that looks at no more than these finds one in both lists or in neither.
pub record InPropertyOrder (quads made : List Quad) : Type 0 where
  pub in_order : IsTrue (ascends entry_cmp made)
  pub members :
      (test : Quad → Bool) → ((q r : Quad) → IsTrue (is_eq (entry_cmp q r)) → test q ≡ test r)
      → list_any test made ≡ list_any test (property_quads quads)
  pub within :
      (test : Quad → Bool) → IsTrue (list_any test made) →
      IsTrue (list_any test (property_quads quads))

-- the value of a quad's object, in the quad's graph
abbrev pub quad_value : List Quad → Quad → ListValue
quad_value dataset q = value_of dataset (graph_of q) q.object

-- the properties of some quads with the values of their quads
abbrev pub gathered : (Quad → ListValue) → List Quad → List ViewProperty
gathered value quads =
    map (λ p. record { property = p; values = map value (filter (under p) quads) })
    (properties_in quads)

-- the objects of some quads are near a term
abbrev pub AreNear : List Quad → Term → List Quad → Type 0
AreNear dataset x quads = (q : Quad) → IsTrue (has quad_eq quads q) → Near dataset [] x q.object

-- a property with the values of some quads
abbrev pub valued : List Quad → List ℕ → List Quad → ViewProperty
valued dataset property quads =
    record { property = property; values = map (quad_value dataset) quads }

-- some quads are in a dataset
abbrev pub AreHeld : List Quad → List Quad → Type 0
AreHeld dataset quads = (q : Quad) → IsTrue (has quad_eq quads q) → IsTrue (holds dataset q)
