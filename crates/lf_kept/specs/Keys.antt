-- The keys under which views are kept.
use Rattle.std.specs.Prelude.{List, ◌++◌, ◌∷◌, ℕ}
use Rattle.std.specs.Ordering.{nat_cmp, ordering_then}
use Rattle.std.specs.declared.cmp.Ordering.{Ordering}
use Rattle.std.specs.Cmp.Lexicographic.{slice_cmp}
use Rattle.lf_base.specs.Ascii.{space}
use Rattle.lf_rdf.specs.Canonical.{id_of}
use Rattle.lf_rdf.specs.declared.term.Term.{Term}
use Rattle.lf_rdf.specs.declared.question.GraphRef.{GraphRef}
use Rattle.lf_rdf.specs.declared.question.GraphRef.TheVariants as graph
use Rattle.lf_kept.specs.declared.key.NodeKey.{NodeKey}

-- the id of the node; in a named graph the graph's id and a space stand before it, in the merged
-- graph a space
abbrev pub node_name : GraphRef → Term → List ℕ
node_name graph.Default id = id_of id
node_name (graph.Named name) id = id_of name ++ space ∷ id_of id
node_name graph.Merged id = space ∷ id_of id

-- the order of keys
abbrev pub key_cmp : NodeKey → NodeKey → Ordering
key_cmp a b = ordering_then (nat_cmp a.number b.number) (slice_cmp nat_cmp a.name b.name)
