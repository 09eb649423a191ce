use Rattle.std.proofs.Common.{◌≡◌, drop}
use Rattle.lf_model.specs.JsonBridge.{items_data}
use Rattle.def_contexts.specs.NodeTests.{nodes_of_items}
use Rattle.lf_expand.proofs.Gathered.{before}
use Rattle.lf_expand.proofs.node_tests.nodes_of_items.Given as goal

abbrev pub invariant-loop-item : goal.invariant-loop-item
invariant-loop-item l =
    nodes_of_items l.terms.table.now l.vocab (items_data l.items) ≡ before l.nodes (nodes_of_items l.terms.table.now l.vocab (items_data (drop l.item-index l.items)))
