use Rattle.lf_session.specs.Boards.{boards_of}
use Rattle.lf_session.proofs.BoardProofs.{call-stays, kept-twice}
use Rattle.lf_session.proofs.answer.answer_now.Goals as goal

pub returns-in-Ok-Pending-clause-keeps : goal.returns-in-Ok-Pending-clause-keeps
returns-in-Ok-Pending-clause-keeps g c =
    kept-twice _ _ _ _ (boards_of (g.D.Desk.away c.args.desk.now) (g.D.Desk.taken c.args.desk.now))
    (boards_of (g.D.Desk.away c.look.new.self) (g.D.Desk.taken c.look.new.self))
    (boards_of (g.D.Desk.away c.refresh.new.desk) (g.D.Desk.taken c.refresh.new.desk))
    c.look.ensures.same_alone
    (call-stays _ _ _ _ _ _ c.look.ensures.same_alone c.refresh.ensures.call)
    (g.met.D.Desk.away_are_live c.look.new.self)
    (record { taken = c.look.ensures.same_taken; out = c.look.ensures.away })
    c.refresh.ensures.keeps
