use Rattle.std.proofs.Common.{sym, ◌∙◌}
use Rattle.lf_lists.proofs.KnownWalks.{examined_none}
use Rattle.lf_lists.proofs.known.examine.Goals as goal

pub returns-clause-examines : goal.returns-clause-examines
returns-clause-examines g c = examined_none c.args.known.now (sym c.is_blank-blank.ensures ∙ c.if-blank.false)
