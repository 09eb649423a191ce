use Rattle.std.proofs.Common.{◌≤◌, length, subst}
use Rattle.lf_context.proofs.Lists.{no_set_members}
use Rattle.lf_context.proofs.start.members_set_type.Goals as goal

pub returns-in-len2-up : goal.returns-in-len2-up
returns-in-len2-up c = no_set_members c.args.members.now (subst (λ l. 2 ≤ length l) c.as_slice.ensures.entries c.in-len2-up.len_at_least)
