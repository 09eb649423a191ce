use Rattle.std.proofs.Common.{◌≡◌, drop, map}
use Rattle.lf_oracle.specs.NodeViews.{property_data, view_data}
use Rattle.def_framing.specs.Views.{values_at, values_under}
use Rattle.lf_match.proofs.view.values_under.Given as goal

abbrev pub invariant-loop-entry : goal.invariant-loop-entry
invariant-loop-entry l =
    values_at l.property (map property_data (drop l.entry-index l.view.props)) ≡ values_under (view_data l.view) l.property
