use Rattle.std.proofs.Common.{sym, ◌∙◌}
use Rattle.lf_lists.proofs.ClimbStates.{climb_begun, climb_blank, ring_found, ring_bound, none_found, none_bound, top_found, top_bound, climb_on, fewer_climbs}
use Rattle.lf_lists.proofs.cell.climbs_out.Goals as goal

pub climb-init : goal.climb-init
climb-init g c =
    climb_begun _ _ _ _ _ _ _ _ c.new-climbed.ensures.empty c.in_ok-node.ensures c.requires.start c.requires.proper c.requires.few

pub returns-then-is_marked : goal.returns-then-is_marked
returns-then-is_marked g c =
    record {
      climbs = ring_found c.climb.invariant (sym c.is_marked.ensures ∙ c.if-is_marked.true);
      bound = ring_bound c.climb.invariant;
      quads_stay = c.climb.invariant.stays;
    }

pub mark-requires : goal.mark-requires
mark-requires g c = record { blank = climb_blank c.climb.invariant }

pub returns-in_err-mark-clause-quads_stay : goal.returns-in_err-mark-clause-quads_stay
returns-in_err-mark-clause-quads_stay g c = c.climb.invariant.stays

pub returns-in_err-next-clause-quads_stay : goal.returns-in_err-next-clause-quads_stay
returns-in_err-next-clause-quads_stay g c = c.user.ensures.quads_stay ∙ c.climb.invariant.stays

pub returns-in_err-ends-in-Some-clause-quads_stay : goal.returns-in_err-ends-in-Some-clause-quads_stay
returns-in_err-ends-in-Some-clause-quads_stay g c = c.is_proper_node.ensures.quads_stay ∙ (c.user.ensures.quads_stay ∙ c.climb.invariant.stays)

pub returns-in-None : goal.returns-in-None
returns-in-None g c =
    record {
      climbs = none_found c.climb.invariant c.in_ok-next.ensures.user c.in-None.is;
      bound = none_bound c.climb.invariant c.in_ok-next.ensures.user c.in_ok-next.ensures.counts;
      quads_stay = c.user.ensures.quads_stay ∙ c.climb.invariant.stays;
    }

pub returns-else-ends : goal.returns-else-ends
returns-else-ends g c =
    record {
      climbs =
          top_found c.climb.invariant c.in_ok-next.ensures.user c.in-Some.above c.in-Some.is c.in_ok-next.ensures.quads_stay
          c.in_ok-ends-in-Some.ensures.walks c.if-ends.false;
      bound =
          top_bound c.climb.invariant c.in_ok-next.ensures.user c.in-Some.above c.in-Some.is c.in_ok-next.ensures.quads_stay
          c.in_ok-ends-in-Some.ensures.walks c.if-ends.false c.in_ok-next.ensures.counts
          (c.in_ok-ends-in-Some.ensures.few c.climb.invariant.few) c.in_ok-ends-in-Some.ensures.bound;
      quads_stay = c.is_proper_node.ensures.quads_stay ∙ (c.user.ensures.quads_stay ∙ c.climb.invariant.stays);
    }

pub climb-preserved : goal.climb-preserved
climb-preserved g c =
    climb_on c.climb.invariant c.in_ok-next.ensures.user c.in-Some.above c.in-Some.is c.in_ok-next.ensures.quads_stay
    c.in_ok-ends-in-Some.ensures.walks c.if-ends.true c.in_ok-next.ensures.counts c.in_ok-ends-in-Some.ensures.quads_stay
    (c.in_ok-ends-in-Some.ensures.few c.climb.invariant.few) c.in_ok-ends-in-Some.ensures.bound _ c.in_ok-mark.ensures.marked
    (sym c.is_marked.ensures ∙ c.if-is_marked.false)

pub climb-smaller : goal.climb-smaller
climb-smaller g c =
    fewer_climbs
    (climb_on c.climb.invariant c.in_ok-next.ensures.user c.in-Some.above c.in-Some.is c.in_ok-next.ensures.quads_stay
    c.in_ok-ends-in-Some.ensures.walks c.if-ends.true c.in_ok-next.ensures.counts c.in_ok-ends-in-Some.ensures.quads_stay
    (c.in_ok-ends-in-Some.ensures.few c.climb.invariant.few) c.in_ok-ends-in-Some.ensures.bound _ c.in_ok-mark.ensures.marked
    (sym c.is_marked.ensures ∙ c.if-is_marked.false))
    _ _ _ (c.in_ok-ends-in-Some.ensures.quads_stay ∙ c.in_ok-next.ensures.quads_stay) c.in_ok-mark.ensures.marked
    (sym c.is_marked.ensures ∙ c.if-is_marked.false)
