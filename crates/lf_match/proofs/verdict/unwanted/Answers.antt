use Rattle.std.proofs.Common.{refl}
use Rattle.lf_match.proofs.RowProofs.{row_is_map}
use Rattle.lf_match.proofs.verdict.unwanted.Goals as goal

pub returns-in-Some : goal.returns-in-Some
returns-in-Some c = rw (c.in-Some.ensures.row.stands, row_is_map _ _ c.in-Some.ensures.row.within) refl
