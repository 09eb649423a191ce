-- The orders in which the quads of a version are kept. They tell any two quads apart; which order
-- it is, no answer shows.
use Rattle.std.specs.Prelude.{Option}
use Rattle.std.specs.declared.cmp.Ordering.{Ordering}
use Rattle.std.specs.Option.{option_cmp}
use Rattle.std.specs.Ordering.{nat_cmp, bool_cmp, on, then_cmp}
use Rattle.lf_rdf.specs.declared.term.Term.{Term}
use Rattle.lf_rdf.specs.declared.quad.Quad.{Quad}
use Rattle.def_datasets.specs.Order.{parts_cmp, term_parts}
use Rattle.def_datasets.specs.Terms.{tells_type}
use Rattle.lf_index.specs.Numbers.{number_of}

-- terms by their numbers, and then by their parts
abbrev pub term_order : Term → Term → Ordering
term_order = then_cmp (on number_of nat_cmp) (on term_parts parts_cmp)

-- graph labels, the default graph first
abbrev pub label_order : Option Term → Option Term → Ordering
label_order = option_cmp term_order

-- quads by each of their places
abbrev pub subjects : Quad → Quad → Ordering
subjects = on (λ q. q.subject) term_order

abbrev pub predicates : Quad → Quad → Ordering
predicates = on (λ q. q.predicate) term_order

abbrev pub objects : Quad → Quad → Ordering
objects = on (λ q. q.object) term_order

abbrev pub graphs : Quad → Quad → Ordering
graphs = on (λ q. q.graph) label_order

-- quads that use their object, and then those whose object is a type
abbrev pub kinds : Quad → Quad → Ordering
kinds = on tells_type bool_cmp

-- quads by subject, graph, predicate and object
abbrev pub subject_order : Quad → Quad → Ordering
subject_order = then_cmp (then_cmp (then_cmp subjects graphs) predicates) objects

-- quads by object, kind, predicate, graph and subject: the uses of an object stand together
abbrev pub object_order : Quad → Quad → Ordering
object_order = then_cmp (then_cmp (then_cmp (then_cmp objects kinds) predicates) graphs) subjects

-- quads by graph, subject, predicate and object
abbrev pub graph_order : Quad → Quad → Ordering
graph_order = then_cmp (then_cmp (then_cmp graphs subjects) predicates) objects
