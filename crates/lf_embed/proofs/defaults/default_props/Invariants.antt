use Rattle.std.proofs.Common.{◌≡◌, [], drop, filter, map}
use Rattle.lf_model.specs.TreeBridge.{property_data}
use Rattle.def_nested.specs.Nested.{props_list}
use Rattle.def_nested.specs.Unfolding.{above, build_props, nested}
use Rattle.def_framing.specs.Parts.{default_next, takes_default}
use Rattle.def_framing.specs.Results.{through}
use Rattle.lf_embed.specs.Forms.{form_of}
use Rattle.lf_embed.specs.Walks.{path_of, state_of}
use Rattle.lf_embed.proofs.defaults.default_props.Given as goal

abbrev pub invariant-loop-prop : goal.invariant-loop-prop
invariant-loop-prop l =
    record {
      run :
          through default_next (map property_data l.done)
          (filter (takes_default (form_of l.frame.nodes l.form) (map property_data l.values)) (props_list (build_props (above l.at (nested l.frame.nodes)) (drop l.prop-index l.props))))
          (state_of l.walk)
          ≡ through default_next []
          (filter (takes_default (form_of l.frame.nodes l.form) (map property_data l.values)) (props_list (build_props (above l.at (nested l.frame.nodes)) l.props)))
          (state_of l.initial.walk);
      path : path_of l.walk ≡ path_of l.initial.walk;
    }
