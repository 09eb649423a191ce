use Rattle.std.proofs.Common.{◌≡◌, sym, arith, subst, get_or}
use Rattle.lf_nodes.proofs.States.{values_begun, values_more, values_done}
use Rattle.lf_nodes.proofs.values.values_of.Goals as goal

pub loop-entry-init : goal.loop-entry-init
loop-entry-init g c = values_begun _ _ _ _ _ _ c.new-values.ensures

pub loop-entry-preserved : goal.loop-entry-preserved
loop-entry-preserved g c =
    values_more c.loop-entry.invariant c.requires.near c.quad.result.now c.loop-entry-test.true
    (subst (λ w. w ≡ get_or c.args.entries.now c.loop-entry.entry-index w) (sym c.quad.ensures) c.entry-item.is) _ c.in_ok-value.ensures.value
    c.in_ok-value.ensures.quads_stay c.in_ok-push.ensures.ok

pub returns-clause-values : goal.returns-clause-values
returns-clause-values g c = values_done c.loop-entry.invariant (omega arith)
