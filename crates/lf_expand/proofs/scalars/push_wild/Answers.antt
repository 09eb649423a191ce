use Rattle.lf_expand.proofs.RowLemmas.{wild_placed}
use Rattle.lf_expand.proofs.scalars.push_wild.Goals as goal

pub returns : goal.returns
returns c =
    wild_placed c.args.rows.now.items c.push_row.new.rows.items c.in_ok-number.number c.plain-row.result c.plain-row.ensures c.in_ok-number.ensures.number c.in_ok-number.ensures.pushed
