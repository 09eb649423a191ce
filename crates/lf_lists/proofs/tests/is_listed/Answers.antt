use Rattle.lf_lists.proofs.tests.is_listed.Goals as goal

pub is_cell-requires-clause-knows : goal.is_cell-requires-clause-knows
is_cell-requires-clause-knows g c = c.new-known.ensures _ _
