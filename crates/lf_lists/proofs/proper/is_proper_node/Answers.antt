use Rattle.std.proofs.Common.{sym, ◌∙◌}
use Rattle.lf_lists.proofs.CellTests.{examined_other, examined_walk}
use Rattle.lf_lists.proofs.proper.is_proper_node.Goals as goal

pub returns-clause-walks : goal.returns-clause-walks
returns-clause-walks g c = examined_other (sym c.is_blank-blank.ensures ∙ c.if-blank.false)

pub returns-then-blank-clause-walks : goal.returns-then-blank-clause-walks
returns-then-blank-clause-walks g c = examined_walk (sym c.is_blank-blank.ensures ∙ c.if-blank.true) c.in_ok-found.ensures.walks
