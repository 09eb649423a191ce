use Rattle.std.proofs.Common.{◌≡◌, ◌++◌, map, reverse, vec_len}
use Rattle.lf_expand.specs.Numbers.{turned_row}
use Rattle.lf_expand.proofs.numbering.numbered.Given as goal

abbrev pub invariant-loop-row : goal.invariant-loop-row
invariant-loop-row l = l.nodes ++ map (turned_row l.last) (reverse l.rows.items) ≡ map (turned_row l.last) (reverse l.initial.rows.items)

abbrev pub decreases-loop-row : goal.decreases-loop-row
decreases-loop-row l = vec_len l.rows
