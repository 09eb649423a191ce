use Rattle.std.proofs.Common.{◌∷◌, [], ◌∙◌, ap, map, sym}
use Rattle.std.proofs.lemmas.List.{map-append}
use Rattle.lf_model.specs.TreeBridge.{entries_data, entry_data, nodes_data, tree_data}
use Rattle.def_documents.specs.Nodes.{pointing_filed, values_filed}
use Rattle.lf_compact.specs.Nodes.{one_pointing, one_value}
use Rattle.lf_compact.specs.Pieces.{filed_data, filed_list}
use Rattle.lf_compact.proofs.Maps.{pointing-step, value-step}
use Rattle.lf_compact.proofs.Traversed.{goes-on, passes, stops}
use Rattle.lf_compact.proofs.trees.+compacting.Goals as goal

pub values_filed-loop-value-preserved : goal.values_filed-loop-value-preserved
values_filed-loop-value-preserved t c =
    let table = c.args.inverse.now in
    let iri = c.args.iri.now in
    let sole = c.args.sole in
    let old = c.loop-value.made.items in
    goes-on (λ xs. values_filed table iri sole (entries_data xs)) c.as_slice-value-items.result.now
    (λ v. one_value table iri sole (entry_data v)) (λ x xs. value-step table iri sole (entry_data x) (map entry_data xs))
    c.loop-value.value-index c.value-item.result c.loop-value-test.true c.value-item.is (map filed_data old)
    (filed_list c.push.new.self) (filed_data c.in-Ok.filed) c.in-Ok.ensures
    (ap (map filed_data) c.in_ok-push-in-Ok.ensures.items ∙ map-append filed_data old (c.in-Ok.filed ∷ []))
    c.loop-value.invariant

pub values_filed-returns-in-Err : goal.values_filed-returns-in-Err
values_filed-returns-in-Err t c =
    let table = c.args.inverse.now in
    let iri = c.args.iri.now in
    let sole = c.args.sole in
    let items = c.as_slice-value-items.result.now in
    passes filed_data filed_list c.in-Err.e (one_value table iri sole (entry_data c.value-item.result))
    (values_filed table iri sole (entries_data c.args.values.now))
    (λ none.
    ap (λ xs. values_filed table iri sole (entries_data xs)) (sym c.as_slice-value-items.ensures)
    ∙ stops (λ xs. values_filed table iri sole (entries_data xs)) items (λ v. one_value table iri sole (entry_data v))
    (λ x xs. value-step table iri sole (entry_data x) (map entry_data xs))
    c.loop-value.value-index c.value-item.result c.loop-value-test.true c.value-item.is (filed_list c.loop-value.made) none c.loop-value.invariant)
    c.in-Err.ensures

pub pointing_filed-loop-node-preserved : goal.pointing_filed-loop-node-preserved
pointing_filed-loop-node-preserved t c =
    let table = c.args.inverse.now in
    let iri = c.args.iri.now in
    let old = c.loop-node.made.items in
    goes-on (λ xs. pointing_filed table iri (nodes_data xs)) c.as_slice-node-items.result.now
    (λ v. one_pointing table iri (tree_data v)) (λ x xs. pointing-step table iri (tree_data x) (map tree_data xs))
    c.loop-node.node-index c.node-item.result c.loop-node-test.true c.node-item.is (map filed_data old)
    (filed_list c.push.new.self) (filed_data c.in-Ok.filed) c.in-Ok.ensures
    (ap (map filed_data) c.in_ok-push-in-Ok.ensures.items ∙ map-append filed_data old (c.in-Ok.filed ∷ []))
    c.loop-node.invariant

pub pointing_filed-returns-in-Err : goal.pointing_filed-returns-in-Err
pointing_filed-returns-in-Err t c =
    let table = c.args.inverse.now in
    let iri = c.args.iri.now in
    let items = c.as_slice-node-items.result.now in
    passes filed_data filed_list c.in-Err.e (one_pointing table iri (tree_data c.node-item.result))
    (pointing_filed table iri (nodes_data c.args.nodes.now))
    (λ none.
    ap (λ xs. pointing_filed table iri (nodes_data xs)) (sym c.as_slice-node-items.ensures)
    ∙ stops (λ xs. pointing_filed table iri (nodes_data xs)) items (λ v. one_pointing table iri (tree_data v))
    (λ x xs. pointing-step table iri (tree_data x) (map tree_data xs))
    c.loop-node.node-index c.node-item.result c.loop-node-test.true c.node-item.is (filed_list c.loop-node.made) none c.loop-node.invariant)
    c.in-Err.ensures
