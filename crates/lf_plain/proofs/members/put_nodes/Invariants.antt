use Rattle.std.proofs.Common.{◌≡◌, drop}
use Rattle.std.specs.List.{filter, flat_map}
use Rattle.def_datasets.specs.Sorted.{put_all}
use Rattle.def_datasets.specs.Order.{id_cmp}
use Rattle.def_datasets.specs.Terms.{lies_in}
use Rattle.def_datasets.specs.Questions.{nodes_in}
use Rattle.lf_plain.proofs.members.put_nodes.Given as goal

abbrev pub invariant-loop-quad : goal.invariant-loop-quad
invariant-loop-quad l =
    put_all id_cmp l.found.items (flat_map nodes_in (filter (lies_in l.graph) (drop l.quad-index l.quads)))
    ≡ put_all id_cmp l.initial.found.items (flat_map nodes_in (filter (lies_in l.graph) l.quads))
