use Rattle.std.proofs.Common.{◌≡◌, drop}
use Rattle.std.specs.Option.{option_copied}
use Rattle.lf_model.specs.TreeBridge.{nodes_data, entries_data, reverses_data}
use Rattle.lf_model.specs.TreeBridge as bridge
use Rattle.def_documents.specs.Nodes.{items_json, nodes_json, pointing_filed, properties_filed, reverses_filed, values_filed}
use Rattle.lf_compact.specs.Nodes.{json_list}
use Rattle.lf_compact.specs.Pieces.{filed_list, properties_data}
use Rattle.lf_compact.proofs.Traversed.{behind}
use Rattle.lf_compact.proofs.trees.+compacting.Given as goal

abbrev pub invariant-nodes_json-loop-node : goal.invariant-nodes_json-loop-node
invariant-nodes_json-loop-node l =
    nodes_json l.inverse (nodes_data l.node-items) ≡ behind (json_list l.made) (nodes_json l.inverse (nodes_data (drop l.node-index l.node-items)))

abbrev pub invariant-properties_filed-loop-property : goal.invariant-properties_filed-loop-property
invariant-properties_filed-loop-property l =
    properties_filed l.inverse (bridge.properties_data l.property-items)
    ≡ behind (properties_data l.made) (properties_filed l.inverse (bridge.properties_data (drop l.property-index l.property-items)))

abbrev pub invariant-values_filed-loop-value : goal.invariant-values_filed-loop-value
invariant-values_filed-loop-value l =
    values_filed l.inverse l.iri l.sole (entries_data l.value-items)
    ≡ behind (filed_list l.made) (values_filed l.inverse l.iri l.sole (entries_data (drop l.value-index l.value-items)))

abbrev pub invariant-items_json-loop-item : goal.invariant-items_json-loop-item
invariant-items_json-loop-item l =
    items_json l.inverse (option_copied l.term) (entries_data l.item-items)
    ≡ behind (json_list l.made) (items_json l.inverse (option_copied l.term) (entries_data (drop l.item-index l.item-items)))

abbrev pub invariant-reverses_filed-loop-reverse : goal.invariant-reverses_filed-loop-reverse
invariant-reverses_filed-loop-reverse l =
    reverses_filed l.inverse (reverses_data l.reverse-items)
    ≡ behind (properties_data l.made) (reverses_filed l.inverse (reverses_data (drop l.reverse-index l.reverse-items)))

abbrev pub invariant-pointing_filed-loop-node : goal.invariant-pointing_filed-loop-node
invariant-pointing_filed-loop-node l =
    pointing_filed l.inverse l.iri (nodes_data l.node-items)
    ≡ behind (filed_list l.made) (pointing_filed l.inverse l.iri (nodes_data (drop l.node-index l.node-items)))
