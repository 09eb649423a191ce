use Rattle.std.proofs.Common.{◌≡◌, take}
use Rattle.lf_expand.specs.Numbers.{turned_reverses}
use Rattle.lf_expand.proofs.numbering.turned_reverses.Given as goal

abbrev pub invariant-loop-prop : goal.invariant-loop-prop
invariant-loop-prop l = l.list ≡ turned_reverses l.last (take l.prop-index l.prop-items)
