use Rattle.std.proofs.Common.{◌≡◌, take}
use Rattle.lf_model.proofs.value.+copying.Given as goal

abbrev pub invariant-copy_values-loop-value : goal.invariant-copy_values-loop-value
invariant-copy_values-loop-value l = l.copied.items ≡ take l.value-index l.value-items
