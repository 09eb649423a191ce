use Rattle.std.proofs.Common.{sym, ◌∙◌}
use Rattle.lf_lists.proofs.WalkStates.{next_blank, state_on, fewer_left}
use Rattle.lf_lists.proofs.KnownWalks.{walk_begun, tells_nil, tells_proper, tells_broken, tells_ring, tells_stranger}
use Rattle.lf_lists.proofs.known.walk.Goals as goal

pub walk-init : goal.walk-init
walk-init g c = walk_begun _ _ _ _ _ _ _ c.requires.empty c.in_ok-node.ensures

pub returns-then-is_nil : goal.returns-then-is_nil
returns-then-is_nil g c =
    record { walks = tells_nil c.args.known.now c.walk.invariant (sym c.is_nil.ensures ∙ c.if-is_nil.true); quads_stay = c.walk.invariant.stays }

pub returns-then-ending : goal.returns-then-ending
returns-then-ending g c =
    record {
      walks = tells_proper c.args.known.now c.walk.invariant (sym c.is_marked-ending.ensures ∙ c.if-ending.true);
      quads_stay = c.walk.invariant.stays;
    }

pub returns-then-broken : goal.returns-then-broken
returns-then-broken g c =
    record {
      walks = tells_broken c.args.known.now c.walk.invariant (sym c.is_marked-broken.ensures ∙ c.if-broken.true);
      quads_stay = c.walk.invariant.stays;
    }

pub returns-then-ring : goal.returns-then-ring
returns-then-ring g c =
    record {
      walks = tells_ring c.args.known.now c.walk.invariant (sym c.is_marked-ring.ensures ∙ c.if-ring.true);
      quads_stay = c.walk.invariant.stays;
    }

pub returns-in_err-rest-clause-quads_stay : goal.returns-in_err-rest-clause-quads_stay
returns-in_err-rest-clause-quads_stay g c = c.shaped_rest.ensures.quads_stay ∙ c.walk.invariant.stays

pub mark-requires : goal.mark-requires
mark-requires g c = record { blank = next_blank c.walk.invariant c.in_ok-rest.ensures.rest c.in-Some.next c.in-Some.is }

pub returns-in_err-mark-in-Some-clause-quads_stay : goal.returns-in_err-mark-in-Some-clause-quads_stay
returns-in_err-mark-in-Some-clause-quads_stay g c = c.shaped_rest.ensures.quads_stay ∙ c.walk.invariant.stays

pub walk-preserved : goal.walk-preserved
walk-preserved g c =
    state_on c.walk.invariant c.in_ok-rest.ensures.rest c.shaped_rest.ensures.quads_stay c.in-Some.next c.in-Some.is _ _
    c.in_ok-mark-in-Some.ensures.marked c.in_ok-mark-in-Some.ensures.marked (sym c.is_marked-ring.ensures ∙ c.if-ring.false)
    (sym c.is_marked-ring.ensures ∙ c.if-ring.false) c.in_ok-rest.ensures.bound

pub walk-smaller : goal.walk-smaller
walk-smaller g c =
    fewer_left
    (state_on c.walk.invariant c.in_ok-rest.ensures.rest c.shaped_rest.ensures.quads_stay c.in-Some.next c.in-Some.is _ _
    c.in_ok-mark-in-Some.ensures.marked c.in_ok-mark-in-Some.ensures.marked (sym c.is_marked-ring.ensures ∙ c.if-ring.false)
    (sym c.is_marked-ring.ensures ∙ c.if-ring.false) c.in_ok-rest.ensures.bound)
    _ _ _ c.shaped_rest.ensures.quads_stay c.in_ok-mark-in-Some.ensures.marked (sym c.is_marked-ring.ensures ∙ c.if-ring.false)

pub returns-in-None : goal.returns-in-None
returns-in-None g c =
    record {
      walks = tells_stranger c.args.known.now c.walk.invariant c.in_ok-rest.ensures.rest (sym c.is_nil.ensures ∙ c.if-is_nil.false) c.in-None.is;
      quads_stay = c.shaped_rest.ensures.quads_stay ∙ c.walk.invariant.stays;
    }
