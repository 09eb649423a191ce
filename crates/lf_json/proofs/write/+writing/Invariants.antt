use Rattle.std.proofs.Common.{◌≡◌, drop, false}
use Rattle.lf_model.specs.JsonBridge.{items_data, members_data}
use Rattle.lf_json.specs.Tokens.{item_tokens, member_tokens, items_have_fraction, members_have_fraction}
use Rattle.lf_json.specs.ReadBack.{ItemsInKeyOrder, MembersInKeyOrder}
use Rattle.lf_json.proofs.Going.{Going}
use Rattle.lf_json.proofs.write.+writing.Given as goal

abbrev pub invariant-write_items-loop-item : goal.invariant-write_items-loop-item
invariant-write_items-loop-item l =
    (items_have_fraction (items_data l.item-items) ≡ false → Going l.initial.out l.out (item_tokens (items_data (drop l.item-index l.item-items))) (item_tokens (items_data l.item-items)))
    × (ItemsInKeyOrder (items_data (drop l.item-index l.item-items)) → ItemsInKeyOrder (items_data l.item-items))

abbrev pub invariant-write_members-loop-member : goal.invariant-write_members-loop-member
invariant-write_members-loop-member l =
    (members_have_fraction (members_data l.member-items) ≡ false → Going l.initial.out l.out (member_tokens (members_data (drop l.member-index l.member-items))) (member_tokens (members_data l.member-items)))
    × (MembersInKeyOrder (members_data (drop l.member-index l.member-items)) → MembersInKeyOrder (members_data l.member-items))
