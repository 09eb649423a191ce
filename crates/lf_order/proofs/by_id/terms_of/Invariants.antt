use Rattle.std.proofs.Common.{◌≡◌, ◌++◌}
use Rattle.lf_order.proofs.by_id.terms_of.Given as goal

abbrev pub invariant-loop-one : goal.invariant-loop-one
invariant-loop-one l = l.terms.items ++ l.one-iterator.rest.items ≡ l.fn.by_id.items
