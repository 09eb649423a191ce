use Rattle.std.proofs.Common.{◌++◌, ◌∙◌, map}
use Rattle.lf_model.specs.JsonBridge.{json_data}
use Rattle.def_documents.specs.Entries.{entries_in_order}
use Rattle.def_documents.specs.Grouping.{object_of}
use Rattle.def_documents.specs.Nodes.{graph_entry}
use Rattle.lf_compact.specs.Nodes.{reverse_part}
use Rattle.lf_compact.specs.Pieces.{properties_data}
use Rattle.lf_compact.proofs.Steps.{if-ok}
use Rattle.lf_compact.proofs.parts.write_node.Goals as goal

pub returns : goal.returns
returns c =
    let table = c.args.inverse.now in
    let graph = graph_entry table (map json_data c.args.graph.items) in
    let unturned = reverse_part table (entries_in_order (properties_data c.in_ok-parts.parts.unturned)) in
    let properties = entries_in_order (properties_data c.args.properties) in
    let turned = entries_in_order (properties_data c.in_ok-parts.parts.turned) in
    if-ok c.object_of.result
    (λ json made entries held.
    made (entries ++ graph ++ unturned ++ properties ++ turned)
    (c.in_ok-add_in_order-2.ensures (entries ++ graph ++ unturned ++ properties)
    (c.in_ok-add_in_order.ensures (entries ++ graph ++ unturned)
    (c.in_ok-add_reverse.ensures (entries ++ graph)
    (c.in_ok-add_graph.ensures entries held))))
    ∙ (λ i. object_of
    (entries ++ graph ++ reverse_part table (entries_in_order (c.in_ok-parts.ensures.unturned i)) ++ properties
    ++ entries_in_order (c.in_ok-parts.ensures.turned i))))
    c.object_of.ensures
