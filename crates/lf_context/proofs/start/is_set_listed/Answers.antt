use Rattle.lf_context.proofs.Lists.{no_set}
use Rattle.lf_context.proofs.start.is_set_listed.Goals as goal

pub returns-in-len2-up : goal.returns-in-len2-up
returns-in-len2-up c = no_set c.args.items.now c.in-len2-up.len_at_least
