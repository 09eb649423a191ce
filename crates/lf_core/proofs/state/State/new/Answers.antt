use Rattle.lf_core.proofs.Steps.{fresh}
use Rattle.lf_core.proofs.state.State.new.Goals as goal

pub invariant_of-result : goal.invariant_of-result
invariant_of-result c =
    fresh _ c.in_ok-first.field-0 c.in_ok-no_frames.field-0.items _ _ c.new.ensures.items c.in_ok-first.ensures c.in_ok-no_frames.ensures.none
    c.in_ok-no_frames.ensures.seats
