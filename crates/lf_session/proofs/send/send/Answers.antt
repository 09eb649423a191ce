use Rattle.std.proofs.Common.{rules, ◌≡◌, List, ℕ}
use Rattle.lf_io.specs.Bytes.{appended, AddsPart}
use Rattle.lf_io.proofs.Told.{part_of_second}
use Rattle.lf_session.specs.Replies.{sent_body}
use Rattle.lf_session.specs.Shown.{shown}
use Rattle.lf_session.proofs.send.send.Goals as goal

pub returns-in-Err-write_all-clause-cut : goal.returns-in-Err-write_all-clause-cut
returns-in-Err-write_all-clause-cut g c =
    let body : List ℕ = (shown c.args.reply.now).body in
    let head : List ℕ = c.reply.result.now in
    let whole : g.K.Sink.held c.write_all.new.sink ≡ appended (g.K.Sink.held c.args.output.now) head = search rules in
    let part : AddsPart (g.K.Sink.held c.write_all.new.sink) (g.K.Sink.held c.write_all-2.new.sink) (sent_body c.args.method body) =
    search rules in
    search (rules, part_of_second _ _ _ head (sent_body c.args.method body) whole part)
