use Rattle.lf_context.proofs.Lists.{none_given}
use Rattle.lf_context.proofs.parts.container_listed.Goals as goal

pub returns-in-len3-up : goal.returns-in-len3-up
returns-in-len3-up c = none_given c.args.items.now c.in-len3-up.len_at_least
