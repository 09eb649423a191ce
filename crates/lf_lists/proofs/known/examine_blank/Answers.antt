use Rattle.std.proofs.Common.{refl}
use Rattle.lf_lists.proofs.KnownWalks.{examined_proper, examined_broken}
use Rattle.lf_lists.proofs.known.examine_blank.Goals as goal

pub returns-then-ends-clause-examines : goal.returns-then-ends-clause-examines
returns-then-ends-clause-examines g c =
    examined_proper c.args.known.now _ c.requires.blank c.in_ok-ends.ensures.walks c.if-ends.true c.in_ok-mark_all.ensures refl refl refl

pub returns-clause-examines : goal.returns-clause-examines
returns-clause-examines g c =
    examined_broken c.args.known.now _ c.requires.blank c.in_ok-ends.ensures.walks c.if-ends.false refl c.in_ok-mark_all-2.ensures refl refl
