use Rattle.std.proofs.Common.{sym, ◌∙◌}
use Rattle.lf_lists.proofs.ReadStates.{turns_at_end, turns_along}
use Rattle.lf_lists.proofs.value.turn.Goals as goal

pub returns-then-is_nil-clause-turns : goal.returns-then-is_nil-clause-turns
returns-then-is_nil-clause-turns g c = turns_at_end c.in_ok-ended.ended c.in_ok-ended.ensures.turns

pub returns-clause-turns : goal.returns-clause-turns
returns-clause-turns g c = turns_along (sym c.is_nil.ensures ∙ c.if-is_nil.false) c.in_ok-after.ensures.reads
