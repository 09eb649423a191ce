use Rattle.std.proofs.Common.{◌≡◌, drop}
use Rattle.lf_model.specs.JsonBridge.{items_data, members_data}
use Rattle.lf_json.specs.Tokens.{items_have_fraction, members_have_fraction}
use Rattle.lf_json.proofs.write.+seeking.Given as goal

abbrev pub invariant-items_have_fraction-loop-item : goal.invariant-items_have_fraction-loop-item
invariant-items_have_fraction-loop-item l =
    items_have_fraction (items_data l.item-items) ≡ items_have_fraction (items_data (drop l.item-index l.item-items))

abbrev pub invariant-members_have_fraction-loop-member : goal.invariant-members_have_fraction-loop-member
invariant-members_have_fraction-loop-member l =
    members_have_fraction (members_data l.member-items) ≡ members_have_fraction (members_data (drop l.member-index l.member-items))
