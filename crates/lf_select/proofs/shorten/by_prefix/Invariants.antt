use Rattle.std.proofs.Common.{◌≡◌, ◌≤◌, drop, length}
use Rattle.lf_select.specs.Shortest.{shortest}
use Rattle.lf_select.proofs.shorten.by_prefix.Given as goal

abbrev pub invariant-loop-at : goal.invariant-loop-at
invariant-loop-at l =
    (l.best ≡ shortest l.table l.prefixes.groups l.iri l.has_value (drop l.at l.prefixes.lengths.items))
    × (l.at ≤ length l.prefixes.lengths.items)

abbrev pub decreases-loop-at : goal.decreases-loop-at
decreases-loop-at l = l.at
