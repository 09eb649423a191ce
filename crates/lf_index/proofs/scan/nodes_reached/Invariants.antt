use Rattle.std.proofs.Common.{◌≡◌, ◌++◌, map}
use Rattle.lf_ptree.specs.Ranges.{pairs_left}
use Rattle.lf_index.specs.Reach.{nodes_reached}
use Rattle.lf_index.proofs.scan.nodes_reached.Given as goal

abbrev pub invariant-loop-pair : goal.invariant-loop-pair
invariant-loop-pair g l =
    l.found.items ++ nodes_reached l.question (map (λ e. g.K.Keyed.quad e.0) (pairs_left l.pair-iterator))
    ≡ nodes_reached l.question (map (λ e. g.K.Keyed.quad e.0) (pairs_left l.fn.pairs))
