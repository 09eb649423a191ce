use Rattle.std.proofs.Common.{arith}
use Rattle.lf_match.proofs.RowProofs.{not_larger, past_table}
use Rattle.lf_match.proofs.rows.later_row.Goals as goal
use Rattle.lf_match.proofs.rows.later_row.Goals.{else-at-later-via-then-at-later+else-later-len, else-at-later-via-else-at-later}

pub returns-else-at-later-clause-none : goal.returns-else-at-later-clause-none
returns-else-at-later-clause-none c =
    elim c.else-at-later.branch [
      | else-at-later-via-then-at-later+else-later-len w ↦ past_table _ _ _ _ c.in-Some.is (omega arith)
      | else-at-later-via-else-at-later w ↦ not_larger _ _ _ _ c.in-Some.is (omega arith)
    ]
