use Rattle.std.proofs.Common.{◌≡◌, Some, map, take}
use Rattle.def_documents.specs.Document.{most_items}
use Rattle.def_framing.specs.Outcome.{outcome}
use Rattle.def_framing.specs.OutcomeBridge.{outcome_data}
use Rattle.def_framing.specs.Views.{of_dataset}
use Rattle.lf_scratch.proofs.Deciding.{room_behind}
use Rattle.lf_scratch.proofs.framing.outcomes_until.Given as goal

abbrev pub invariant-loop-term : goal.invariant-loop-term
invariant-loop-term g l =
    record {
      stays : g.N.Nodes.quads l.nodes ≡ g.N.Nodes.quads l.initial.nodes;
      made : map outcome_data l.made ≡ map (outcome (of_dataset (g.N.Nodes.quads l.initial.nodes)) l.frame) (take l.term-index l.terms);
      room : room_behind (Some most_items) (map outcome_data l.made) ≡ Some l.room;
    }
