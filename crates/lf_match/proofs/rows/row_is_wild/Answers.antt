use Rattle.std.proofs.Common.{refl}
use Rattle.lf_match.proofs.RowProofs.{no_row, wild_row}
use Rattle.lf_match.proofs.rows.row_is_wild.Goals as goal

pub returns-in-None : goal.returns-in-None
returns-in-None c = rw (no_row _ _ c.in-None.ensures.item) refl

pub returns-in-Wild : goal.returns-in-Wild
returns-in-Wild c = rw (wild_row _ _ _ c.in-Some.ensures.item, c.in-Wild.is) refl

pub returns-in-Node : goal.returns-in-Node
returns-in-Node c = rw (wild_row _ _ _ c.in-Some.ensures.item, c.in-Node.is) refl

pub returns-in-Value : goal.returns-in-Value
returns-in-Value c = rw (wild_row _ _ _ c.in-Some.ensures.item, c.in-Value.is) refl

pub returns-in-List : goal.returns-in-List
returns-in-List c = rw (wild_row _ _ _ c.in-Some.ensures.item, c.in-List.is) refl
