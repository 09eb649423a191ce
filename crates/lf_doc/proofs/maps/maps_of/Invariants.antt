use Rattle.std.proofs.Common.{◌≡◌, map}
use Rattle.lf_model.specs.JsonBridge.{json_data}
use Rattle.def_framing.specs.OutcomeBridge.{outcome_data}
use Rattle.def_documents.specs.Document.{compact_all}
use Rattle.def_documents.specs.Pruning.{prune_node}
use Rattle.lf_tidy.specs.Counts.{count_in}
use Rattle.lf_doc.specs.Gathering.{trees_of}
use Rattle.lf_doc.proofs.Trees.{before, trees_from}
use Rattle.lf_doc.proofs.maps.maps_of.Given as goal

abbrev pub invariant-loop-outcome : goal.invariant-loop-outcome
invariant-loop-outcome l =
    before (map json_data l.maps.items)
    (compact_all l.inverse (map (prune_node (count_in l.counts)) (trees_from l.outcome-items l.outcome-index)))
    ≡ compact_all l.inverse (map (prune_node (count_in l.counts)) (trees_of (map outcome_data l.outcome-items)))
