use Rattle.std.proofs.Common.{rules}
use Rattle.lf_session.proofs.Refreshed.{refreshed}
use Rattle.lf_session.specs.Boards.{boards_of}
use Rattle.lf_session.proofs.BoardProofs.{call-stays, kept-twice}
use Rattle.lf_session.proofs.answer.refresh.Goals as goal

pub returns-then-need-newest-clause-call : goal.returns-then-need-newest-clause-call
returns-then-need-newest-clause-call g c =
    refreshed _ _ _ _ _ _ _ c.args.name.now c.args.need c.newest.result c.args.have c.args.needed c.frame_now.result _
    c.newest.ensures.same_alone c.newest.ensures.same_seat (search rules) c.newest.ensures.call c.frame_now.ensures.call
    c.framed_reply.ensures.shown

pub returns-then-need-newest-clause-keeps : goal.returns-then-need-newest-clause-keeps
returns-then-need-newest-clause-keeps g c =
    kept-twice _ _ _ _ (boards_of (g.D.Desk.away c.args.desk.now) (g.D.Desk.taken c.args.desk.now))
    (boards_of (g.D.Desk.away c.newest.new.self) (g.D.Desk.taken c.newest.new.self))
    (boards_of (g.D.Desk.away c.frame_now.new.self) (g.D.Desk.taken c.frame_now.new.self))
    c.newest.ensures.same_alone
    (call-stays _ _ _ _ _ _ c.newest.ensures.same_alone c.frame_now.ensures.call)
    (g.met.D.Desk.away_are_live c.newest.new.self)
    (record { taken = c.newest.ensures.same_taken; out = c.newest.ensures.away })
    (record { taken = c.frame_now.ensures.same_taken; out = c.frame_now.ensures.away })
