use Rattle.std.proofs.Common.{◌≡◌, None, ◌+◌, ◌∙◌, ap, drop, rules}
use Rattle.lf_model.specs.declared.tree.TreeProp.{out-TreeProp}
use Rattle.lf_model.specs.declared.tree.TreeReverse.{out-TreeReverse}
use Rattle.lf_model.specs.TreeBridge.{entries_data, entry_data, nodes_data, properties_data, reverses_data, tree_data}
use Rattle.def_framing.specs.Items.{entries_items, entry_items, node_items, nodes_items, properties_items, reverses_items}
use Rattle.lf_doc.specs.Room.{room_after}
use Rattle.lf_doc.proofs.Parts.{entries-next, entries-none, nodes-next, nodes-none, properties-next, properties-none, reverses-next, reverses-none}
use Rattle.lf_doc.proofs.Room.{room-end, room-next, room-none}
use Rattle.lf_doc.proofs.items.+counting.Goals as goal

pub nodes_room-returns-in_err-room : goal.nodes_room-returns-in_err-room
nodes_room-returns-in_err-room t c =
    let xs = c.as_slice-node-items.result.now in
    let i = c.loop-node.node-index in
    let x = c.node-item.result in
    let none : c.from_residual.result ≡ None = search rules in
    none
    ∙ room-none (nodes_items (nodes_data (drop i xs))) (node_items (tree_data x)) (nodes_items (nodes_data (drop (i + 1) xs))) c.loop-node.room _
    (nodes-next xs i x c.loop-node-test.true c.node-item.is) c.in_err-room.ensures c.loop-node.invariant
    ∙ ap (λ ys. room_after (nodes_items (nodes_data ys)) c.args.room) c.as_slice-node-items.ensures

pub nodes_room-loop-node-preserved : goal.nodes_room-loop-node-preserved
nodes_room-loop-node-preserved t c =
    let xs = c.as_slice-node-items.result.now in
    let i = c.loop-node.node-index in
    let x = c.node-item.result in
    room-next (nodes_items (nodes_data (drop i xs))) (node_items (tree_data x)) (nodes_items (nodes_data (drop (i + 1) xs))) c.loop-node.room c.in_ok-room.room _
    (nodes-next xs i x c.loop-node-test.true c.node-item.is) c.in_ok-room.ensures c.loop-node.invariant

pub nodes_room-returns : goal.nodes_room-returns
nodes_room-returns t c =
    let xs = c.as_slice-node-items.result.now in
    let i = c.loop-node.node-index in
    room-end (nodes_items (nodes_data (drop i xs))) c.loop-node.room _ (nodes-none xs i c.loop-node-test.false) c.loop-node.invariant
    ∙ ap (λ ys. room_after (nodes_items (nodes_data ys)) c.args.room) c.as_slice-node-items.ensures

pub props_room-returns-in_err-room : goal.props_room-returns-in_err-room
props_room-returns-in_err-room t c =
    let xs = c.as_slice-prop-items.result.now in
    let i = c.loop-prop.prop-index in
    let x = c.prop-item.result in
    let none : c.from_residual.result ≡ None = search rules in
    none
    ∙ room-none (properties_items (properties_data (drop i xs))) (entries_items (entries_data (out-TreeProp x).values)) (properties_items (properties_data (drop (i + 1) xs))) c.loop-prop.room _
    (properties-next xs i x c.loop-prop-test.true c.prop-item.is) c.in_err-room.ensures c.loop-prop.invariant
    ∙ ap (λ ys. room_after (properties_items (properties_data ys)) c.args.room) c.as_slice-prop-items.ensures

pub props_room-loop-prop-preserved : goal.props_room-loop-prop-preserved
props_room-loop-prop-preserved t c =
    let xs = c.as_slice-prop-items.result.now in
    let i = c.loop-prop.prop-index in
    let x = c.prop-item.result in
    room-next (properties_items (properties_data (drop i xs))) (entries_items (entries_data (out-TreeProp x).values)) (properties_items (properties_data (drop (i + 1) xs))) c.loop-prop.room c.in_ok-room.room _
    (properties-next xs i x c.loop-prop-test.true c.prop-item.is) c.in_ok-room.ensures c.loop-prop.invariant

pub props_room-returns : goal.props_room-returns
props_room-returns t c =
    let xs = c.as_slice-prop-items.result.now in
    let i = c.loop-prop.prop-index in
    room-end (properties_items (properties_data (drop i xs))) c.loop-prop.room _ (properties-none xs i c.loop-prop-test.false) c.loop-prop.invariant
    ∙ ap (λ ys. room_after (properties_items (properties_data ys)) c.args.room) c.as_slice-prop-items.ensures

pub reverses_room-returns-in_err-room : goal.reverses_room-returns-in_err-room
reverses_room-returns-in_err-room t c =
    let xs = c.as_slice-reverse-items.result.now in
    let i = c.loop-reverse.reverse-index in
    let x = c.reverse-item.result in
    let none : c.from_residual.result ≡ None = search rules in
    none
    ∙ room-none (reverses_items (reverses_data (drop i xs))) (nodes_items (nodes_data (out-TreeReverse x).nodes)) (reverses_items (reverses_data (drop (i + 1) xs))) c.loop-reverse.room _
    (reverses-next xs i x c.loop-reverse-test.true c.reverse-item.is) c.in_err-room.ensures c.loop-reverse.invariant
    ∙ ap (λ ys. room_after (reverses_items (reverses_data ys)) c.args.room) c.as_slice-reverse-items.ensures

pub reverses_room-loop-reverse-preserved : goal.reverses_room-loop-reverse-preserved
reverses_room-loop-reverse-preserved t c =
    let xs = c.as_slice-reverse-items.result.now in
    let i = c.loop-reverse.reverse-index in
    let x = c.reverse-item.result in
    room-next (reverses_items (reverses_data (drop i xs))) (nodes_items (nodes_data (out-TreeReverse x).nodes)) (reverses_items (reverses_data (drop (i + 1) xs))) c.loop-reverse.room c.in_ok-room.room _
    (reverses-next xs i x c.loop-reverse-test.true c.reverse-item.is) c.in_ok-room.ensures c.loop-reverse.invariant

pub reverses_room-returns : goal.reverses_room-returns
reverses_room-returns t c =
    let xs = c.as_slice-reverse-items.result.now in
    let i = c.loop-reverse.reverse-index in
    room-end (reverses_items (reverses_data (drop i xs))) c.loop-reverse.room _ (reverses-none xs i c.loop-reverse-test.false) c.loop-reverse.invariant
    ∙ ap (λ ys. room_after (reverses_items (reverses_data ys)) c.args.room) c.as_slice-reverse-items.ensures

pub values_room-returns-in_err-room : goal.values_room-returns-in_err-room
values_room-returns-in_err-room t c =
    let xs = c.as_slice-value-items.result.now in
    let i = c.loop-value.value-index in
    let x = c.value-item.result in
    let none : c.from_residual.result ≡ None = search rules in
    none
    ∙ room-none (entries_items (entries_data (drop i xs))) (entry_items (entry_data x)) (entries_items (entries_data (drop (i + 1) xs))) c.loop-value.room _
    (entries-next xs i x c.loop-value-test.true c.value-item.is) c.in_err-room.ensures c.loop-value.invariant
    ∙ ap (λ ys. room_after (entries_items (entries_data ys)) c.args.room) c.as_slice-value-items.ensures

pub values_room-loop-value-preserved : goal.values_room-loop-value-preserved
values_room-loop-value-preserved t c =
    let xs = c.as_slice-value-items.result.now in
    let i = c.loop-value.value-index in
    let x = c.value-item.result in
    room-next (entries_items (entries_data (drop i xs))) (entry_items (entry_data x)) (entries_items (entries_data (drop (i + 1) xs))) c.loop-value.room c.in_ok-room.room _
    (entries-next xs i x c.loop-value-test.true c.value-item.is) c.in_ok-room.ensures c.loop-value.invariant

pub values_room-returns : goal.values_room-returns
values_room-returns t c =
    let xs = c.as_slice-value-items.result.now in
    let i = c.loop-value.value-index in
    room-end (entries_items (entries_data (drop i xs))) c.loop-value.room _ (entries-none xs i c.loop-value-test.false) c.loop-value.invariant
    ∙ ap (λ ys. room_after (entries_items (entries_data ys)) c.args.room) c.as_slice-value-items.ensures
