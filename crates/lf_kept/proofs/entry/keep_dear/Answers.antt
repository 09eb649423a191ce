use Rattle.lf_kept.proofs.Again.{one_more}
use Rattle.lf_kept.proofs.entry.keep_dear.Goals as goal

pub returns-clause-kept : goal.returns-clause-kept
returns-clause-kept c =
    λ dataset all here. one_more dataset c.args.kept.now c.insert.new.self c.args.key c.args.first c.in_ok-insert.ensures.updates.0 all here
