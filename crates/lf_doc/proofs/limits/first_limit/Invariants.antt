use Rattle.std.proofs.Common.{drop, map}
use Rattle.def_framing.specs.OutcomeBridge.{outcome_data}
use Rattle.lf_doc.proofs.Gathered.{Tells}
use Rattle.lf_doc.proofs.limits.first_limit.Given as goal

abbrev pub invariant-loop-outcome : goal.invariant-loop-outcome
invariant-loop-outcome l =
    Tells (map outcome_data l.outcome-items) (map outcome_data (drop l.outcome-index l.outcome-items)) l.room
