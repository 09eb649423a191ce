use Rattle.std.proofs.Common.{◌≡◌, ◌++◌}
use Rattle.lf_context.proofs.draft.in_order.Given as goal

abbrev pub invariant-loop-definition : goal.invariant-loop-definition
invariant-loop-definition l = l.found ++ l.definition-iterator ≡ l.initial.found ++ l.initial.definition-iterator
