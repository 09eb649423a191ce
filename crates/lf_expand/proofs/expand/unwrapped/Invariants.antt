use Rattle.std.proofs.Common.{◌≡◌, drop, codes}
use Rattle.std.specs.Option.{option_copied}
use Rattle.lf_model.specs.JsonBridge.{members_data}
use Rattle.def_contexts.specs.Frames.{without_key}
use Rattle.lf_expand.proofs.Tops.{with_sole}
use Rattle.lf_expand.proofs.expand.unwrapped.Given as goal

abbrev pub invariant-loop-member : goal.invariant-loop-member
invariant-loop-member l =
    without_key (codes "@context") (members_data l.members)
    ≡ with_sole (option_copied l.sole) (without_key (codes "@context") (members_data (drop l.member-index l.members)))
