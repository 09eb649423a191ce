use Rattle.std.proofs.Common.{sym, ◌∙◌}
use Rattle.lf_lists.proofs.WalkStates.{state_begun, next_blank, state_on, ends_stranger, bound_stranger, ends_nil, ends_known, ends_ring, bound_here, fewer_left}
use Rattle.lf_lists.proofs.proper.ends_well.Goals as goal

pub walk-init : goal.walk-init
walk-init g c = state_begun _ _ _ _ _ _ _ _ c.new-walked.ensures.empty c.in_ok-node.ensures

pub returns-then-is_nil : goal.returns-then-is_nil
returns-then-is_nil g c =
    record {
      walks = ends_nil c.walk.invariant (sym c.if-is_nil.true ∙ c.is_nil.ensures);
      bound = bound_here c.walk.invariant 0;
      few = c.walk.invariant.few;
      quads_stay = c.walk.invariant.stays;
    }

pub returns-then-is_marked : goal.returns-then-is_marked
returns-then-is_marked g c =
    record {
      walks = ends_ring c.walk.invariant (sym c.is_marked.ensures ∙ c.if-is_marked.true);
      bound = bound_here c.walk.invariant 3;
      few = c.walk.invariant.few;
      quads_stay = c.walk.invariant.stays;
    }

pub returns-then-is_marked-2 : goal.returns-then-is_marked-2
returns-then-is_marked-2 g c =
    record {
      walks = ends_known c.walk.invariant (sym c.is_marked.ensures ∙ c.if-is_marked.false) (sym c.is_marked-in-walk.ensures ∙ c.if-is_marked-2.true);
      bound = bound_here c.walk.invariant 0;
      few = c.walk.invariant.few;
      quads_stay = c.walk.invariant.stays;
    }

pub returns-in_err-rest-clause-quads_stay : goal.returns-in_err-rest-clause-quads_stay
returns-in_err-rest-clause-quads_stay g c = c.shaped_rest.ensures.quads_stay ∙ c.walk.invariant.stays

pub mark-requires : goal.mark-requires
mark-requires g c = record { blank = next_blank c.walk.invariant c.in_ok-rest.ensures.rest c.in-Some.next c.in-Some.is }

pub returns-in_err-mark-in-Some-clause-quads_stay : goal.returns-in_err-mark-in-Some-clause-quads_stay
returns-in_err-mark-in-Some-clause-quads_stay g c = c.shaped_rest.ensures.quads_stay ∙ c.walk.invariant.stays

pub returns-in_err-mark-in-Some-2-clause-quads_stay : goal.returns-in_err-mark-in-Some-2-clause-quads_stay
returns-in_err-mark-in-Some-2-clause-quads_stay g c = c.shaped_rest.ensures.quads_stay ∙ c.walk.invariant.stays

pub walk-preserved : goal.walk-preserved
walk-preserved g c =
    state_on c.walk.invariant c.in_ok-rest.ensures.rest c.shaped_rest.ensures.quads_stay c.in-Some.next c.in-Some.is _ _
    c.in_ok-mark-in-Some.ensures.marked c.in_ok-mark-in-Some-2.ensures.marked (sym c.is_marked.ensures ∙ c.if-is_marked.false)
    (sym c.is_marked-in-walk.ensures ∙ c.if-is_marked-2.false) c.in_ok-rest.ensures.bound

pub walk-smaller : goal.walk-smaller
walk-smaller g c =
    fewer_left
    (state_on c.walk.invariant c.in_ok-rest.ensures.rest c.shaped_rest.ensures.quads_stay c.in-Some.next c.in-Some.is _ _
    c.in_ok-mark-in-Some.ensures.marked c.in_ok-mark-in-Some-2.ensures.marked (sym c.is_marked.ensures ∙ c.if-is_marked.false)
    (sym c.is_marked-in-walk.ensures ∙ c.if-is_marked-2.false) c.in_ok-rest.ensures.bound)
    _ _ _ c.shaped_rest.ensures.quads_stay c.in_ok-mark-in-Some.ensures.marked (sym c.is_marked.ensures ∙ c.if-is_marked.false)

pub returns-in-None : goal.returns-in-None
returns-in-None g c =
    record {
      walks = ends_stranger c.walk.invariant c.in_ok-rest.ensures.rest (sym c.is_nil.ensures ∙ c.if-is_nil.false) c.in-None.is;
      bound = bound_stranger c.walk.invariant c.in_ok-rest.ensures.rest c.in_ok-rest.ensures.bound;
      few = c.walk.invariant.few;
      quads_stay = c.shaped_rest.ensures.quads_stay ∙ c.walk.invariant.stays;
    }
