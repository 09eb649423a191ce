use Rattle.std.proofs.Common.{◌≡◌, drop}
use Rattle.lf_model.specs.JsonBridge.{members_data}
use Rattle.def_contexts.specs.FrameKeys.{set_for_null, kept}
use Rattle.lf_expand.specs.KeptKeys.{kept_keys, nothing_kept}
use Rattle.lf_expand.proofs.class.+nulls.Given as goal

abbrev pub invariant-set_for_null-loop-member : goal.invariant-set_for_null-loop-member
invariant-set_for_null-loop-member l =
    set_for_null l.terms.table.now (members_data l.member-items) ≡ set_for_null l.terms.table.now (members_data (drop l.member-index l.member-items))

abbrev pub invariant-kept_keys-loop-member : goal.invariant-kept_keys-loop-member
invariant-kept_keys-loop-member l =
    kept_keys nothing_kept (kept l.terms.table.now (members_data l.member-items)) ≡ kept_keys l.keys (kept l.terms.table.now (members_data (drop l.member-index l.member-items)))
