use Rattle.std.proofs.Common.{◌≡◌, ◌<◌, map, length, get_or, subst, ◌∙◌}
use Rattle.lf_model.specs.declared.tree.TreeProp.{TreeProp}
use Rattle.lf_model.specs.TreeBridge.{property_data}
use Rattle.lf_embed.proofs.DefaultProofs.{default_more, default_over}
use Rattle.lf_embed.specs.Forms.{form_of}
use Rattle.lf_embed.specs.Walks.{state_of}
use Rattle.def_nested.specs.Unfolding.{above, nested}
use Rattle.lf_embed.proofs.defaults.default_props.Goals as goal

pub loop-prop-preserved : goal.loop-prop-preserved
loop-prop-preserved c =
    record {
      run = default_more (form_of c.args.frame.now.nodes c.args.form) (map property_data c.args.values.now) (above c.args.at (nested c.args.frame.now.nodes)) c.args.props.now c.loop-prop.prop-index c.prop-item.result (map property_data c.loop-prop.done) (map property_data c.next_default.new.done) (state_of c.loop-prop.walk) (state_of c.next_default.new.walk) (subst (λ xs. c.loop-prop.prop-index < length xs) c.as_slice-prop-items.ensures c.loop-prop-test.true) (subst (λ xs. c.prop-item.result ≡ get_or xs c.loop-prop.prop-index c.prop-item.result) c.as_slice-prop-items.ensures c.prop-item.is) c.in-Ok.ensures.run ∙ c.loop-prop.invariant.run;
      path = c.next_default.ensures.path ∙ c.loop-prop.invariant.path;
    }

pub returns-in-Err-clause-run : goal.returns-in-Err-clause-run
returns-in-Err-clause-run c = default_over (λ (u : Unit {0}). map property_data c.next_default.new.done) (map {A = TreeProp} property_data) (form_of c.args.frame.now.nodes c.args.form) (map property_data c.args.values.now) (above c.args.at (nested c.args.frame.now.nodes)) c.args.props.now c.loop-prop.prop-index c.prop-item.result (map property_data c.loop-prop.done) (state_of c.loop-prop.walk) _ _ _ c.in-Err.stop (subst (λ xs. c.loop-prop.prop-index < length xs) c.as_slice-prop-items.ensures c.loop-prop-test.true) (subst (λ xs. c.prop-item.result ≡ get_or xs c.loop-prop.prop-index c.prop-item.result) c.as_slice-prop-items.ensures c.prop-item.is) c.loop-prop.invariant.run c.in-Err.ensures.run
