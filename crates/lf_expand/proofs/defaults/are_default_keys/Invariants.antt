use Rattle.std.proofs.Common.{◌≡◌, drop}
use Rattle.lf_model.specs.JsonBridge.{members_data}
use Rattle.def_contexts.specs.Members.{all_keys}
use Rattle.def_contexts.specs.Defaults.{is_default_key}
use Rattle.lf_expand.proofs.defaults.are_default_keys.Given as goal

abbrev pub invariant-loop-member : goal.invariant-loop-member
invariant-loop-member l =
    all_keys is_default_key (members_data l.members) ≡ all_keys is_default_key (members_data (drop l.member-index l.members))
