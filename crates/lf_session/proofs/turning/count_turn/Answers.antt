use Rattle.lf_session.proofs.TurnProofs.{turn-out, turn-short, turn-step}
use Rattle.lf_session.proofs.turning.count_turn.Goals as goal

pub turn_reply-requires : goal.turn_reply-requires
turn_reply-requires g c =
    record {
      short =
          turn-short (g.D.Desk.alone c.args.desk.now) (g.D.Desk.seat c.args.desk.now)
          (g.D.Desk.history c.args.desk.now) (g.D.Desk.history c.one_turn.new.rota)
          (g.D.Desk.away c.args.desk.now) (g.D.Desk.away c.one_turn.new.rota)
          (g.D.Desk.taken c.args.desk.now) (g.D.Desk.taken c.one_turn.new.rota)
          c.one_turn.result c.one_turn.ensures.turn;
    }

pub returns-clause-step : goal.returns-clause-step
returns-clause-step g c = λ need name body.
    turn-step (g.D.Desk.alone c.args.desk.now) (g.D.Desk.seat c.args.desk.now) need name body
    (g.D.Desk.history c.args.desk.now) (g.D.Desk.history c.one_turn.new.rota)
    (g.D.Desk.away c.args.desk.now) (g.D.Desk.away c.one_turn.new.rota)
    (g.D.Desk.taken c.args.desk.now) (g.D.Desk.taken c.one_turn.new.rota)
    c.one_turn.result _ c.one_turn.ensures.turn c.turn_reply.ensures.shown

pub returns-clause-moved : goal.returns-clause-moved
returns-clause-moved g c = (c.one_turn.result, c.one_turn.ensures.turn, c.turn_reply.ensures.shown)

pub returns-clause-out : goal.returns-clause-out
returns-clause-out g c =
    turn-out (g.D.Desk.alone c.args.desk.now) (g.D.Desk.seat c.args.desk.now)
    (g.D.Desk.history c.args.desk.now) (g.D.Desk.history c.one_turn.new.rota)
    (g.D.Desk.away c.args.desk.now) (g.D.Desk.away c.one_turn.new.rota)
    (g.D.Desk.taken c.args.desk.now) (g.D.Desk.taken c.one_turn.new.rota)
    c.one_turn.result c.one_turn.ensures.turn (g.met.D.Desk.away_are_live c.one_turn.new.rota)
