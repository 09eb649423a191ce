-- What the three orders and the names of a version say: all of them the same quads.
use Rattle.std.specs.Prelude.{◌≡◌, ℕ, List, [], length, Option, Some, None, if◌then◌else◌}
use Rattle.lf_rdf.specs.declared.term.Term.{Term}
use Rattle.lf_rdf.specs.declared.quad.Quad.{Quad}
use Rattle.lf_rdf.specs.declared.question.GraphRef.{GraphRef}
use Rattle.lf_rdf.specs.declared.question.GraphRef.TheVariants as graph
use Rattle.lf_rdf.specs.Equality.{term_eq}
use Rattle.def_datasets.specs.Sorted.{has}
use Rattle.def_datasets.specs.Dataset.{holds, dataset_of}
use Rattle.def_datasets.specs.Questions.{named}
use Rattle.lf_ptree.specs.Pairs.{keys, put_pair, without_key}
use Rattle.lf_index.specs.Orders.{term_order}

-- a map that is a set of its keys
abbrev pub SetOf : Type 0 → Type 0
SetOf K = List (K × Unit {0})

-- the quads of a version, read from the order by subjects
abbrev pub quads_of : SetOf Quad → List Quad
quads_of subjects = dataset_of (keys subjects)

-- each order has the same quads, the names are the labels of the quads, and the quads are counted
pub record IsIndexed (subjects objects graphs : SetOf Quad) (names : SetOf Term) (count : ℕ) :
    Type 0 where
  pub objects_alike : (q : Quad) → holds (keys objects) q ≡ holds (keys subjects) q
  pub graphs_alike : (q : Quad) → holds (keys graphs) q ≡ holds (keys subjects) q
  pub names_told : (t : Term) → has term_eq (keys names) t ≡ named (keys subjects) t
  pub counted : count ≡ length (quads_of subjects)

-- the names with a label more
abbrev pub with_label : Option Term → SetOf Term → SetOf Term
with_label None names = names
with_label (Some name) names = put_pair term_order name tt names

-- the names without a label that no quad has any more
abbrev pub without_label : Option Term → List Quad → SetOf Term → SetOf Term
without_label None quads names = names
without_label (Some name) quads names =
    if named quads name then names else without_key term_order name names

-- the names that belong to a graph: the default graph has all of them
abbrev pub names_for : GraphRef → List Term → List Term
names_for graph.Default names = names
names_for (graph.Named name) names = []
names_for graph.Merged names = names
