use Rattle.std.proofs.Common.{rules, ◌≡◌, ◌≤◌, sym, subst, ◌∙◌, ◌++◌, ℕ, length}
use Rattle.lf_http.specs.Judge.{request_of, longest_body}
use Rattle.lf_session.specs.Boards.{boards_of}
use Rattle.lf_session.proofs.ShortBodies.{accepted_short}
use Rattle.lf_session.proofs.Serving.{ends_refused, ends_cut, ends_faulted, ends_starved, serves_request}
use Rattle.lf_session.proofs.serve.serve_next.Goals as goal

pub returns-in-Err-clause-serves : goal.returns-in-Err-clause-serves
returns-in-Err-clause-serves g c =
    ends_refused (g.D.Desk.alone c.args.desk.now)
    (boards_of (g.D.Desk.away c.args.desk.now) (g.D.Desk.taken c.args.desk.now))
    (g.D.Desk.seat c.args.desk.now) c.args.need.now (g.D.Desk.history c.args.desk.now)
    (g.S.Source.left c.args.input.now) (g.S.Source.left c.read_head.new.source)
    (g.K.Sink.held c.args.output.now) (g.K.Sink.held c.refuse.new.output)
    c.args.buffers.now.pending c.read_head.new.buffers.pending c.in-Err.e c.refuse.result
    c.in-Err.ensures.unused c.in-Err.ensures.refused
    (record { many = c.in-Err.ensures.many; own = c.in-Err.ensures.exact }) c.refuse.ensures.ends

pub returns-in-Err-CutShort-clause-serves : goal.returns-in-Err-CutShort-clause-serves
returns-in-Err-CutShort-clause-serves g c =
    let head = rw c.in-Ok-Some.field-0-is at c.in-Ok-Some.ensures.head in
    ends_cut (g.D.Desk.alone c.args.desk.now)
    (boards_of (g.D.Desk.away c.args.desk.now) (g.D.Desk.taken c.args.desk.now))
    (g.D.Desk.seat c.args.desk.now) c.args.need.now (g.D.Desk.history c.args.desk.now)
    (g.S.Source.left c.args.input.now) (g.S.Source.left c.read_head.new.source) (g.S.Source.left c.read_body.new.source)
    (g.K.Sink.held c.args.output.now)
    c.args.buffers.now.pending c.read_head.new.buffers.pending c.read_body.new.buffers.body head.0 c.in-Ok-Some.head
    (record { is_head = head.1; short = head.5; few = head.6; accepted = head.3 }) head.2
    (search rules) (search rules) (search rules)

pub returns-in-Err-ReadFault-clause-serves : goal.returns-in-Err-ReadFault-clause-serves
returns-in-Err-ReadFault-clause-serves g c =
    let head = rw c.in-Ok-Some.field-0-is at c.in-Ok-Some.ensures.head in
    ends_faulted (g.D.Desk.alone c.args.desk.now)
    (boards_of (g.D.Desk.away c.args.desk.now) (g.D.Desk.taken c.args.desk.now))
    (g.D.Desk.seat c.args.desk.now) c.args.need.now (g.D.Desk.history c.args.desk.now)
    (g.S.Source.left c.args.input.now) (g.S.Source.left c.read_head.new.source) (g.S.Source.left c.read_body.new.source)
    (g.K.Sink.held c.args.output.now)
    c.args.buffers.now.pending c.read_head.new.buffers.pending c.read_body.new.buffers.body head.0 c.in-Ok-Some.head
    (record { is_head = head.1; short = head.5; few = head.6; accepted = head.3 }) head.2
    (search rules) (search rules)

pub returns-in-Err-Memory-clause-serves : goal.returns-in-Err-Memory-clause-serves
returns-in-Err-Memory-clause-serves g c =
    let head = rw c.in-Ok-Some.field-0-is at c.in-Ok-Some.ensures.head in
    ends_starved (g.D.Desk.alone c.args.desk.now)
    (boards_of (g.D.Desk.away c.args.desk.now) (g.D.Desk.taken c.args.desk.now))
    (g.D.Desk.seat c.args.desk.now) c.args.need.now (g.D.Desk.history c.args.desk.now)
    (g.S.Source.left c.args.input.now) (g.S.Source.left c.read_head.new.source) (g.S.Source.left c.read_body.new.source)
    (g.K.Sink.held c.args.output.now) (g.K.Sink.held c.starve.new.output)
    c.args.buffers.now.pending c.read_head.new.buffers.pending
    (c.read_body.new.buffers.body ++ c.read_body.new.buffers.pending) head.0 c.in-Ok-Some.head c.starve.result
    (record { is_head = head.1; short = head.5; few = head.6; accepted = head.3 }) head.2
    c.read_body.ensures.taken (search rules) c.starve.ensures.ends

pub returns-clause-serves : goal.returns-clause-serves
returns-clause-serves g c =
    let head = rw c.in-Ok-Some.field-0-is at c.in-Ok-Some.ensures.head in
    serves_request (g.D.Desk.alone c.args.desk.now)
    (boards_of (g.D.Desk.away c.args.desk.now) (g.D.Desk.taken c.args.desk.now))
    (boards_of (g.D.Desk.away c.reply.new.desk) (g.D.Desk.taken c.reply.new.desk))
    (g.D.Desk.seat c.args.desk.now) c.args.need.now c.reply.new.need
    (g.D.Desk.history c.args.desk.now) (g.D.Desk.history c.reply.new.desk)
    (g.S.Source.left c.args.input.now) (g.S.Source.left c.read_head.new.source) (g.S.Source.left c.read_body.new.source)
    (g.K.Sink.held c.args.output.now) (g.K.Sink.held c.reply.new.output)
    c.args.buffers.now.pending c.read_head.new.buffers.pending c.reply.new.buffers.pending
    head.0 c.in-Ok-Some.head c.read_body.new.buffers.name c.read_body.new.buffers.body c.reply.result
    (record { is_head = head.1; short = head.5; few = head.6; accepted = head.3 })
    (search rules) (c.read_body.ensures.name ∙ head.4) head.2
    (search rules)
    c.reply.ensures.replies

pub reply-requires : goal.reply-requires
reply-requires g c =
    let head = rw c.in-Ok-Some.field-0-is at c.in-Ok-Some.ensures.head in
    let whole : length c.read_body.new.buffers.body ≡ c.in-Ok-Some.head.length = search rules in
    record { short = subst (λ (n : ℕ). n ≤ longest_body) (sym whole) (accepted_short (request_of head.0) c.in-Ok-Some.head head.3) }
