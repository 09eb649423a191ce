use Rattle.std.proofs.Common.{[], ◌++◌}
use Rattle.def_documents.specs.Nodes.{id_entry, type_entry}
use Rattle.lf_compact.proofs.NodeParts.{begun}
use Rattle.lf_compact.proofs.Steps.{hold-empty}
use Rattle.lf_compact.proofs.parts.begin_node.Goals as goal

pub returns : goal.returns
returns c =
    let table = c.args.inverse.now in
    let ids = c.in_ok-add_id.ensures in
    let names = c.in_ok-add_types.ensures in (
      ids.0 ++ names.0,
      begun (id_entry table c.args.id.now) (type_entry table c.args.types.now) ids.0 names.0 ids.1 names.1,
      names.2 ids.0 (ids.2 [] (hold-empty c.new-members.result c.new-members.ensures.empty)),
    )
