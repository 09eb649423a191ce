use Rattle.std.proofs.Common.{refl, sym}
use Rattle.lf_kept.proofs.Again.{kept_again}
use Rattle.lf_kept.proofs.entry.again.Goals as goal

pub returns-then-same : goal.returns-then-same
returns-then-same g c =
    λ dataset all.
    kept_again dataset c.in-Some.one.now c.args.graph.now c.args.id.now c.args.steps.now c.tick_all.new.steps c.in_ok-found-in-Some.found
    (all c.args.key.now c.in-Some.one.now (sym c.in-Some.ensures.value)) (c.is_of-same.ensures.0 c.if-same.true).0
    (c.is_of-same.ensures.0 c.if-same.true).1 c.in_ok-found-in-Some.ensures c.tick_all.ensures

pub returns-else-same : goal.returns-else-same
returns-else-same g c = λ dataset all. refl

pub returns-in-None : goal.returns-in-None
returns-in-None g c = λ dataset all. refl
