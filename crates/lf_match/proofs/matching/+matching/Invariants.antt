use Rattle.std.proofs.Common.{◌≡◌, true, false, ◌+◌, ◌-◌, ◌*◌, length, take}
use Rattle.std.specs.List.{list_all, list_any}
use Rattle.lf_model.specs.ValueBridge.{value_data}
use Rattle.lf_oracle.specs.Asking.{Learns}
use Rattle.lf_oracle.specs.NodeViews.{view_data}
use Rattle.def_nested.specs.Unfolding.{above, build_props, nested}
use Rattle.def_framing.specs.Matching.{accepts, prop_allows, prop_matches}
use Rattle.def_framing.specs.Nearness.{in_props}
use Rattle.def_framing.specs.Views.{of_dataset}
use Rattle.lf_match.specs.NearNodes.{IsNearOneBy, IsNearOneFor, IsOfValues, IsOfView}
use Rattle.lf_match.specs.Rows.{prop_test}
use Rattle.std.proofs.Common.{map}
use Rattle.lf_match.proofs.matching.+matching.Given as goal

abbrev pub decreases-any_accepted : goal.decreases-any_accepted
decreases-any_accepted g l = 9 * (length l.frame.now.nodes - l.at) + 8

abbrev pub decreases-accepts : goal.decreases-accepts
decreases-accepts g l = 9 * (length l.frame.now.nodes - l.at) + 7

abbrev pub decreases-item_accepted : goal.decreases-item_accepted
decreases-item_accepted g l = 9 * (length l.frame.now.nodes - l.at) + 6

abbrev pub decreases-matches : goal.decreases-matches
decreases-matches g l = 9 * (length l.frame.now.nodes - l.at) + 5

abbrev pub decreases-view_matches : goal.decreases-view_matches
decreases-view_matches g l = 9 * (length l.frame.now.nodes - l.at) + 4

abbrev pub decreases-all_allow : goal.decreases-all_allow
decreases-all_allow g l = 9 * (length l.frame.now.nodes - l.at) + 3

abbrev pub decreases-any_matches : goal.decreases-any_matches
decreases-any_matches g l = 9 * (length l.frame.now.nodes - l.at) + 3

abbrev pub decreases-prop_allows : goal.decreases-prop_allows
decreases-prop_allows g l = 9 * (length l.frame.now.nodes - l.at) + 2

abbrev pub decreases-prop_matches : goal.decreases-prop_matches
decreases-prop_matches g l = 9 * (length l.frame.now.nodes - l.at) + 1

abbrev pub invariant-all_allow-loop-prop : goal.invariant-all_allow-loop-prop
invariant-all_allow-loop-prop g l =
    record {
      stays : g.N.Nodes.quads l.nodes ≡ g.N.Nodes.quads l.initial.nodes;
      learnt :
          Learns
          (IsNearOneBy (g.N.Nodes.quads l.initial.nodes) (in_props (build_props (above l.at (nested l.frame.nodes)) l.props)) (IsOfView l.graph (view_data l.view)))
          (g.N.Nodes.quads l.initial.nodes) (g.N.Nodes.told l.initial.nodes) (g.N.Nodes.told l.nodes) l.initial.steps l.steps
          (λ dataset. list_all (λ p. prop_allows (view_data l.view) (prop_test (of_dataset dataset) l.graph (above l.at (nested l.frame.nodes)) p)) (take l.prop-index l.props))
          true;
    }

abbrev pub invariant-any_matches-loop-prop : goal.invariant-any_matches-loop-prop
invariant-any_matches-loop-prop g l =
    record {
      stays : g.N.Nodes.quads l.nodes ≡ g.N.Nodes.quads l.initial.nodes;
      learnt :
          Learns
          (IsNearOneBy (g.N.Nodes.quads l.initial.nodes) (in_props (build_props (above l.at (nested l.frame.nodes)) l.props)) (IsOfView l.graph (view_data l.view)))
          (g.N.Nodes.quads l.initial.nodes) (g.N.Nodes.told l.initial.nodes) (g.N.Nodes.told l.nodes) l.initial.steps l.steps
          (λ dataset. list_any (λ p. prop_matches (view_data l.view) (prop_test (of_dataset dataset) l.graph (above l.at (nested l.frame.nodes)) p)) (take l.prop-index l.props))
          false;
    }

abbrev pub invariant-any_accepted-loop-value : goal.invariant-any_accepted-loop-value
invariant-any_accepted-loop-value g l =
    record {
      stays : g.N.Nodes.quads l.nodes ≡ g.N.Nodes.quads l.initial.nodes;
      learnt :
          Learns
          (IsNearOneFor (g.N.Nodes.quads l.initial.nodes) (nested l.frame.nodes l.at) (IsOfValues l.graph (map value_data l.values)))
          (g.N.Nodes.quads l.initial.nodes) (g.N.Nodes.told l.initial.nodes) (g.N.Nodes.told l.nodes) l.initial.steps l.steps
          (λ dataset. list_any (λ v. accepts (of_dataset dataset) l.graph (nested l.frame.nodes l.at) (value_data v)) (take l.value-index l.values))
          false;
    }
