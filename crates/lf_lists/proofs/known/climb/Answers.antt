use Rattle.std.proofs.Common.{refl}
use Rattle.lf_lists.proofs.KnownClimbs.{found_cell, found_other}
use Rattle.lf_lists.proofs.known.climb.Goals as goal

pub returns-then-found-clause-climbs : goal.returns-then-found-clause-climbs
returns-then-found-clause-climbs g c =
    found_cell _ _ c.in_ok-found.ensures.climbs c.if-found.true refl refl c.in_ok-mark_all.ensures refl

pub returns-clause-climbs : goal.returns-clause-climbs
returns-clause-climbs g c =
    found_other _ _ c.in_ok-found.ensures.climbs c.if-found.false refl refl refl c.in_ok-mark_all-2.ensures
