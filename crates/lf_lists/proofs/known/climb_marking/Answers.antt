use Rattle.std.proofs.Common.{sym, ◌∙◌}
use Rattle.lf_lists.proofs.KnownClimbs.{back_begun, back_blank, cell_known, other_known, ring_climbed, none_climbed, top_climbed, back_goes_on, fewer_back}
use Rattle.lf_lists.proofs.known.climb_marking.Goals as goal

pub climb-init : goal.climb-init
climb-init g c = back_begun _ _ _ _ _ _ _ _ c.requires.empty c.in_ok-node.ensures c.requires.start c.requires.knows

pub returns-then-listed : goal.returns-then-listed
returns-then-listed g c =
    record { climbs = cell_known c.climb.invariant (sym c.is_marked-listed.ensures ∙ c.if-listed.true); quads_stay = c.climb.invariant.stays }

pub returns-then-apart : goal.returns-then-apart
returns-then-apart g c =
    record { climbs = other_known c.climb.invariant (sym c.is_marked-apart.ensures ∙ c.if-apart.true); quads_stay = c.climb.invariant.stays }

pub returns-then-ring : goal.returns-then-ring
returns-then-ring g c =
    record { climbs = ring_climbed c.climb.invariant (sym c.is_marked-ring.ensures ∙ c.if-ring.true); quads_stay = c.climb.invariant.stays }

pub mark-requires : goal.mark-requires
mark-requires g c = record { blank = back_blank c.climb.invariant }

pub returns-in_err-mark-clause-quads_stay : goal.returns-in_err-mark-clause-quads_stay
returns-in_err-mark-clause-quads_stay g c = c.climb.invariant.stays

pub returns-in_err-next-clause-quads_stay : goal.returns-in_err-next-clause-quads_stay
returns-in_err-next-clause-quads_stay g c = c.user.ensures.quads_stay ∙ c.climb.invariant.stays

pub returns-in_err-ends-in-Some-clause-quads_stay : goal.returns-in_err-ends-in-Some-clause-quads_stay
returns-in_err-ends-in-Some-clause-quads_stay g c = c.examine.ensures.quads_stay ∙ (c.user.ensures.quads_stay ∙ c.climb.invariant.stays)

pub returns-in-None : goal.returns-in-None
returns-in-None g c =
    record {
      climbs = none_climbed c.climb.invariant c.in_ok-mark.ensures.marked c.in_ok-next.ensures.user c.in-None.is;
      quads_stay = c.user.ensures.quads_stay ∙ c.climb.invariant.stays;
    }

pub returns-else-ends : goal.returns-else-ends
returns-else-ends g c =
    record {
      climbs =
          top_climbed c.climb.invariant c.in_ok-mark.ensures.marked c.in_ok-next.ensures.user c.in-Some.above c.in-Some.is c.in_ok-next.ensures.quads_stay
          c.in_ok-ends-in-Some.ensures.examines c.if-ends.false;
      quads_stay = c.examine.ensures.quads_stay ∙ (c.user.ensures.quads_stay ∙ c.climb.invariant.stays);
    }

pub climb-preserved : goal.climb-preserved
climb-preserved g c =
    back_goes_on c.climb.invariant c.in_ok-mark.ensures.marked c.in_ok-next.ensures.user c.in-Some.above c.in-Some.is c.in_ok-next.ensures.quads_stay
    c.in_ok-ends-in-Some.ensures.examines c.if-ends.true c.in_ok-ends-in-Some.ensures.quads_stay

pub climb-smaller : goal.climb-smaller
climb-smaller g c =
    fewer_back
    (back_goes_on c.climb.invariant c.in_ok-mark.ensures.marked c.in_ok-next.ensures.user c.in-Some.above c.in-Some.is c.in_ok-next.ensures.quads_stay
    c.in_ok-ends-in-Some.ensures.examines c.if-ends.true c.in_ok-ends-in-Some.ensures.quads_stay)
    _ _ _ (c.in_ok-ends-in-Some.ensures.quads_stay ∙ c.in_ok-next.ensures.quads_stay) c.in_ok-mark.ensures.marked
    (sym c.is_marked-ring.ensures ∙ c.if-ring.false)
