use Rattle.std.proofs.Common.{◌≡◌, drop}
use Rattle.lf_model.specs.JsonBridge.{members_data}
use Rattle.def_contexts.specs.Members.{all_keys}
use Rattle.def_contexts.specs.Terms.{is_definition_key}
use Rattle.lf_context.proofs.term.have_definition_keys.Given as goal

abbrev pub invariant-loop-member : goal.invariant-loop-member
invariant-loop-member l =
    all_keys is_definition_key (members_data l.member-items) ≡ all_keys is_definition_key (members_data (drop l.member-index l.member-items))
