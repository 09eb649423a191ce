use Rattle.std.proofs.Common.{map, subst}
use Rattle.lf_model.specs.JsonBridge.{json_data}
use Rattle.def_framing.specs.OutcomeBridge.{outcome_data}
use Rattle.def_documents.specs.Document.{compact_all}
use Rattle.def_documents.specs.Pruning.{prune_node}
use Rattle.lf_tidy.specs.Counts.{count_in}
use Rattle.lf_doc.specs.Gathering.{trees_of}
use Rattle.lf_doc.specs.Maps.{CompactedAll}
use Rattle.lf_doc.proofs.Printed.{printed-none, printed-some}
use Rattle.lf_doc.proofs.assembly.printed.Goals as goal

pub returns-in-Ok : goal.returns-in-Ok
returns-in-Ok c =
    let inverse = c.in_ok-inverse.inverse in
    let counts = c.in_ok-counts.counts in
    let ts = trees_of (map outcome_data c.args.outcomes.now) in
    printed-some c.args.frame.now.table inverse (json_data c.args.frame.now.context) ts counts (map json_data c.in-Ok.maps.items) c.written.result
    c.in_ok-inverse.ensures c.in_ok-counts.ensures
    (subst (λ r. CompactedAll r (compact_all inverse (map (prune_node (count_in counts)) ts))) c.in-Ok.is c.maps_of.ensures)
    c.written.ensures

pub returns : goal.returns
returns c =
    let inverse = c.in_ok-inverse.inverse in
    let counts = c.in_ok-counts.counts in
    let ts = trees_of (map outcome_data c.args.outcomes.now) in
    printed-none c.args.frame.now.table inverse (json_data c.args.frame.now.context) ts counts c.refused.result c.in-Err.error
    c.in_ok-inverse.ensures c.in_ok-counts.ensures
    (subst (λ r. CompactedAll r (compact_all inverse (map (prune_node (count_in counts)) ts))) c.in-Err.is c.maps_of.ensures)
    c.refused.ensures
