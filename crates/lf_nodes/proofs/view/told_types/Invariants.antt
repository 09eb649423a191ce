use Rattle.std.proofs.Common.{◌≡◌, map, filter, take}
use Rattle.def_datasets.specs.Views.{is_type_quad}
use Rattle.lf_nodes.proofs.view.told_types.Given as goal

abbrev pub invariant-loop-quad : goal.invariant-loop-quad
invariant-loop-quad l = l.types.items ≡ map (λ q. q.object) (filter is_type_quad (take l.quad-index l.quads))
