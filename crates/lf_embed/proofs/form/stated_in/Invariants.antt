use Rattle.std.proofs.Common.{◌≡◌, drop}
use Rattle.def_nested.specs.Nested.{props_list}
use Rattle.def_nested.specs.Unfolding.{above, build_props, nested}
use Rattle.def_framing.specs.Steps.{sub_at}
use Rattle.lf_embed.proofs.form.stated_in.Given as goal

abbrev pub invariant-loop-prop : goal.invariant-loop-prop
invariant-loop-prop l =
    sub_at l.property (props_list (build_props (above l.at (nested l.frame.nodes)) (drop l.prop-index l.props)))
    ≡ sub_at l.property (props_list (build_props (above l.at (nested l.frame.nodes)) l.props))
