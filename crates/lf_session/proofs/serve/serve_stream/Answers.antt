use Rattle.std.proofs.Common.{rules, sym}
use Rattle.lf_session.specs.Boards.{boards_of}
use Rattle.lf_session.proofs.Streams.{not_begun, one_more, at_end}
use Rattle.lf_session.proofs.serve.serve_stream.Goals as goal

pub returns-in-Err-clause-served : goal.returns-in-Err-clause-served
returns-in-Err-clause-served g c =
    not_begun (g.D.Desk.alone c.args.desk.now)
    (boards_of (g.D.Desk.away c.args.desk.now) (g.D.Desk.taken c.args.desk.now))
    (g.D.Desk.seat c.args.desk.now) (g.D.Desk.history c.args.desk.now)
    (g.S.Source.left c.args.input.now) (g.K.Sink.held c.args.output.now) (g.met.D.Desk.legal c.args.desk.now)

pub returns-in-Some-clause-served : goal.returns-in-Some-clause-served
returns-in-Some-clause-served g c =
    at_end (g.D.Desk.alone c.args.desk.now)
    (boards_of (g.D.Desk.away c.args.desk.now) (g.D.Desk.taken c.args.desk.now))
    (boards_of (g.D.Desk.away c.loop-ended.desk) (g.D.Desk.taken c.loop-ended.desk))
    (boards_of (g.D.Desk.away c.serve_next.new.desk) (g.D.Desk.taken c.serve_next.new.desk))
    (g.D.Desk.seat c.args.desk.now) c.loop-ended.need
    (g.D.Desk.history c.args.desk.now) (g.D.Desk.history c.loop-ended.desk) (g.D.Desk.history c.serve_next.new.desk)
    (g.S.Source.left c.args.input.now) (g.S.Source.left c.loop-ended.input) (g.S.Source.left c.serve_next.new.input)
    (g.K.Sink.held c.args.output.now) (g.K.Sink.held c.loop-ended.output) (g.K.Sink.held c.serve_next.new.output)
    c.loop-ended.buffers.pending c.in-Some.ended
    c.loop-ended.invariant.0
    (rw (sym c.loop-ended.invariant.1, sym c.loop-ended.invariant.2) c.in-Some.ensures.serves)

pub loop-ended-preserved : goal.loop-ended-preserved
loop-ended-preserved g c = (
  one_more (g.D.Desk.alone c.args.desk.now)
      (boards_of (g.D.Desk.away c.args.desk.now) (g.D.Desk.taken c.args.desk.now))
      (boards_of (g.D.Desk.away c.loop-ended.desk) (g.D.Desk.taken c.loop-ended.desk))
      (boards_of (g.D.Desk.away c.serve_next.new.desk) (g.D.Desk.taken c.serve_next.new.desk))
      (g.D.Desk.seat c.args.desk.now) c.loop-ended.need c.serve_next.new.need
      (g.D.Desk.history c.args.desk.now) (g.D.Desk.history c.loop-ended.desk) (g.D.Desk.history c.serve_next.new.desk)
      (g.S.Source.left c.args.input.now) (g.S.Source.left c.loop-ended.input) (g.S.Source.left c.serve_next.new.input)
      (g.K.Sink.held c.args.output.now) (g.K.Sink.held c.loop-ended.output) (g.K.Sink.held c.serve_next.new.output)
      c.loop-ended.buffers.pending c.serve_next.new.buffers.pending
      c.loop-ended.invariant.0
      (rw (sym c.loop-ended.invariant.1, sym c.loop-ended.invariant.2) c.in-None.ensures.serves),
  search rules,
  search rules,
  search rules,
  search rules,
)
