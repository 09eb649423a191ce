use Rattle.std.proofs.Common.{refl, rules}
use Rattle.lf_match.proofs.RowProofs.{no_row, with_row}
use Rattle.lf_match.proofs.rows.row_has_default.Goals as goal

pub returns-in-None : goal.returns-in-None
returns-in-None c = rw (no_row _ _ c.in-None.ensures.item) refl

pub returns-in-Some : goal.returns-in-Some
returns-in-Some c = rw (with_row _ _ _ c.in-Some.ensures.item) (search rules)
