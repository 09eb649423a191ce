use Rattle.std.proofs.Common.{◌≡◌, ◌+◌, ℕ, List, map}
use Rattle.def_framing.specs.OutcomeBridge.{outcome_data}
use Rattle.def_documents.specs.Pruning.{label_count}
use Rattle.lf_tidy.specs.Counts.{count_in}
use Rattle.lf_doc.specs.Gathering.{trees_of}
use Rattle.lf_doc.proofs.Trees.{trees_from}
use Rattle.lf_doc.proofs.labels.labels_of.Given as goal

abbrev pub invariant-loop-outcome : goal.invariant-loop-outcome
invariant-loop-outcome l =
    (label : List ℕ) → count_in l.counts label + label_count (trees_from l.outcome-items l.outcome-index) label
    ≡ label_count (trees_of (map outcome_data l.outcome-items)) label
