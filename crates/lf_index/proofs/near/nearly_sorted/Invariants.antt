use Rattle.std.proofs.Common.{◌≡◌, Bool}
use Rattle.std.specs.List.{list_any}
use Rattle.lf_index.proofs.near.nearly_sorted.Given as goal

abbrev pub invariant-loop-before : goal.invariant-loop-before
invariant-loop-before g l = (test : g.row.T.Denot → Bool) → list_any test l.made.items ≡ list_any test l.fn.values.items
