use Rattle.std.proofs.Common.{◌≡◌, ◌++◌}
use Rattle.def_datasets.specs.Views.{property_quads}
use Rattle.lf_nodes.proofs.entries.entries_of.Given as goal

abbrev pub invariant-loop-quad : goal.invariant-loop-quad
invariant-loop-quad l = l.entries.items ++ property_quads l.quad-iterator.rest.items ≡ property_quads l.fn.quads
