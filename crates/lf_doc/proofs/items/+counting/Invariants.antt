use Rattle.std.proofs.Common.{◌≡◌, drop}
use Rattle.lf_model.specs.TreeBridge.{entries_data, nodes_data, properties_data, reverses_data}
use Rattle.def_framing.specs.Items.{entries_items, nodes_items, properties_items, reverses_items}
use Rattle.lf_doc.specs.Room.{room_after}
use Rattle.lf_doc.proofs.items.+counting.Given as goal

abbrev pub invariant-nodes_room-loop-node : goal.invariant-nodes_room-loop-node
invariant-nodes_room-loop-node l =
    room_after (nodes_items (nodes_data (drop l.node-index l.node-items))) l.room ≡ room_after (nodes_items (nodes_data l.node-items)) l.initial.room

abbrev pub invariant-props_room-loop-prop : goal.invariant-props_room-loop-prop
invariant-props_room-loop-prop l =
    room_after (properties_items (properties_data (drop l.prop-index l.prop-items))) l.room
    ≡ room_after (properties_items (properties_data l.prop-items)) l.initial.room

abbrev pub invariant-reverses_room-loop-reverse : goal.invariant-reverses_room-loop-reverse
invariant-reverses_room-loop-reverse l =
    room_after (reverses_items (reverses_data (drop l.reverse-index l.reverse-items))) l.room
    ≡ room_after (reverses_items (reverses_data l.reverse-items)) l.initial.room

abbrev pub invariant-values_room-loop-value : goal.invariant-values_room-loop-value
invariant-values_room-loop-value l =
    room_after (entries_items (entries_data (drop l.value-index l.value-items))) l.room
    ≡ room_after (entries_items (entries_data l.value-items)) l.initial.room
