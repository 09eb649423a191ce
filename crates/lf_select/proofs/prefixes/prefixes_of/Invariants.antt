use Rattle.std.proofs.Common.{◌≤◌, length}
use Rattle.lf_select.specs.Prefixes.{AreGroupedFrom}
use Rattle.lf_select.proofs.prefixes.prefixes_of.Given as goal

abbrev pub invariant-loop-place : goal.invariant-loop-place
invariant-loop-place l = AreGroupedFrom l.table l.prefixes.groups l.prefixes.lengths.items l.place × (l.place ≤ length l.table.terms)

abbrev pub decreases-loop-place : goal.decreases-loop-place
decreases-loop-place l = l.place
