use Rattle.std.proofs.Common.{◌≤◌, length}
use Rattle.lf_select.specs.Names.{ArePrefixesFrom}
use Rattle.lf_select.proofs.names.prefix_names_of.Given as goal

abbrev pub invariant-loop-place : goal.invariant-loop-place
invariant-loop-place l = ArePrefixesFrom l.table l.prefixes l.place × (l.place ≤ length l.table.terms)

abbrev pub decreases-loop-place : goal.decreases-loop-place
decreases-loop-place l = l.place
