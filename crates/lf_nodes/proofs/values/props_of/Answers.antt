use Rattle.std.proofs.Common.{sym}
use Rattle.lf_nodes.specs.Properties.{under}
use Rattle.lf_nodes.proofs.States.{props_begun, props_more, props_done, first_of, run_near, left_smaller}
use Rattle.lf_nodes.proofs.values.props_of.Goals as goal

pub loop-first-init : goal.loop-first-init
loop-first-init g c = props_begun _ _ _ _ _ _ c.new-props.ensures c.requires.in_order c.requires.near

pub split_property-requires : goal.split_property-requires
split_property-requires g c =
    record {
      in_order = c.loop-first.invariant.in_order;
      first = first_of _ c.in-Some.first.now _ (sym c.in-Some.ensures.value) c.property-own.ensures;
    }

pub prop_of-requires : goal.prop_of-requires
prop_of-requires g c = record { near = run_near c.loop-first.invariant (under c.property-own.result.now) _ c.split_property.ensures.run }

pub loop-first-preserved : goal.loop-first-preserved
loop-first-preserved g c =
    props_more c.loop-first.invariant c.property-own.result.now (first_of _ c.in-Some.first.now _ (sym c.in-Some.ensures.value) c.property-own.ensures) _ _
    c.split_property.ensures.run c.split_property.ensures.others _ c.in_ok-prop.ensures.prop c.in_ok-prop.ensures.quads_stay c.in_ok-push.ensures.ok

pub loop-first-smaller : goal.loop-first-smaller
loop-first-smaller g c =
    left_smaller c.property-own.result.now _ _ (first_of _ c.in-Some.first.now _ (sym c.in-Some.ensures.value) c.property-own.ensures) c.split_property.ensures.others

pub returns-clause-props : goal.returns-clause-props
returns-clause-props g c = props_done c.loop-first.invariant (sym c.in_default.ensures.value)
