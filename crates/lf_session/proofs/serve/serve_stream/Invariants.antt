use Rattle.std.proofs.Common.{◌≡◌}
use Rattle.lf_http.specs.Reading.{to_come}
use Rattle.lf_session.specs.Boards.{boards_of}
use Rattle.lf_session.proofs.Streams.{IsUnderWay}
use Rattle.lf_session.proofs.serve.serve_stream.Given as goal

abbrev pub invariant-loop-ended : goal.invariant-loop-ended
invariant-loop-ended g l =
    IsUnderWay (g.D.Desk.alone l.initial.desk)
    (boards_of (g.D.Desk.away l.initial.desk) (g.D.Desk.taken l.initial.desk))
    (boards_of (g.D.Desk.away l.desk) (g.D.Desk.taken l.desk))
    (g.D.Desk.seat l.initial.desk) l.need (g.D.Desk.history l.initial.desk) (g.D.Desk.history l.desk)
    (g.S.Source.left l.initial.input) (g.S.Source.left l.input) (g.K.Sink.held l.initial.output) (g.K.Sink.held l.output) l.buffers.pending
    × (g.D.Desk.seat l.desk ≡ g.D.Desk.seat l.initial.desk)
    × (g.D.Desk.alone l.desk ≡ g.D.Desk.alone l.initial.desk)
    × (g.S.Source.faults l.input ≡ g.S.Source.faults l.initial.input)
    × (g.K.Sink.faults l.output ≡ g.K.Sink.faults l.initial.output)

abbrev pub decreases-loop-ended : goal.decreases-loop-ended
decreases-loop-ended g l = to_come (g.S.Source.taken l.input) l.buffers.pending
