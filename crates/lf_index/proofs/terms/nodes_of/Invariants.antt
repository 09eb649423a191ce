use Rattle.std.proofs.Common.{◌≡◌, ◌∷◌, ◌++◌, filter, flat_map}
use Rattle.def_datasets.specs.Terms.{is_node, label_terms}
use Rattle.lf_ptree.specs.Pairs.{keys}
use Rattle.lf_ptree.specs.Ranges.{pairs_left}
use Rattle.lf_index.proofs.terms.nodes_of.Given as goal

abbrev pub invariant-loop-pair : goal.invariant-loop-pair
invariant-loop-pair l =
    l.found.items ++ filter is_node (flat_map (λ q. q.subject ∷ q.object ∷ label_terms q.graph) (keys (pairs_left l.pair-iterator)))
    ≡ filter is_node (flat_map (λ q. q.subject ∷ q.object ∷ label_terms q.graph) (keys l.by_subject))
