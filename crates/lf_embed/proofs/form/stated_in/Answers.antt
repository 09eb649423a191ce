use Rattle.std.proofs.Common.{◌≡◌, ◌<◌, Some, get_or, length, sym, ap, subst, ◌∙◌}
use Rattle.lf_embed.proofs.FormProofs.{stated_here, stated_later}
use Rattle.lf_embed.proofs.form.stated_in.Goals as goal

pub returns-then-is_named : goal.returns-then-is_named
returns-then-is_named c = ap Some c.numbered.ensures ∙ sym (stated_here _ c.args.property.now c.args.props.now c.loop-prop.prop-index c.prop-item.result (subst (λ xs. c.loop-prop.prop-index < length xs) c.as_slice-prop-items.ensures c.loop-prop-test.true) (subst (λ xs. c.prop-item.result ≡ get_or xs c.loop-prop.prop-index c.prop-item.result) c.as_slice-prop-items.ensures c.prop-item.is) (sym c.is_named.ensures ∙ c.if-is_named.true)) ∙ c.loop-prop.invariant

pub loop-prop-preserved : goal.loop-prop-preserved
loop-prop-preserved c = sym (stated_later _ c.args.property.now c.args.props.now c.loop-prop.prop-index c.prop-item.result (subst (λ xs. c.loop-prop.prop-index < length xs) c.as_slice-prop-items.ensures c.loop-prop-test.true) (subst (λ xs. c.prop-item.result ≡ get_or xs c.loop-prop.prop-index c.prop-item.result) c.as_slice-prop-items.ensures c.prop-item.is) (sym c.is_named.ensures ∙ c.if-is_named.false)) ∙ c.loop-prop.invariant
