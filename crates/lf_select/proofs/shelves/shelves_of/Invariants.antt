use Rattle.std.proofs.Common.{◌≤◌, length}
use Rattle.lf_select.specs.Shelves.{IsFiledFrom}
use Rattle.lf_select.proofs.shelves.shelves_of.Given as goal

abbrev pub invariant-loop-place : goal.invariant-loop-place
invariant-loop-place l = IsFiledFrom l.table l.shelves l.place × (l.place ≤ length l.table.terms)

abbrev pub decreases-loop-place : goal.decreases-loop-place
decreases-loop-place l = l.place
