use Rattle.std.proofs.Common.{◌≡◌, ◌++◌, take, drop}
use Rattle.def_datasets.specs.Sorted.{put}
use Rattle.def_datasets.specs.Order.{id_cmp}
use Rattle.lf_plain.proofs.order.place_for.Given as goal

abbrev pub invariant-loop-place : goal.invariant-loop-place
invariant-loop-place l =
    put id_cmp l.term l.terms ≡ take l.place l.terms ++ put id_cmp l.term (drop l.place l.terms)
