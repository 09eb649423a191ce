use Rattle.std.proofs.Common.{◌≡◌, ◌++◌}
use Rattle.lf_embed.proofs.parts.joined.Given as goal

abbrev pub invariant-loop-property : goal.invariant-loop-property
invariant-loop-property l = l.props ≡ l.initial.props ++ l.yielded
