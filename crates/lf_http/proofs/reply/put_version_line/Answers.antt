use Rattle.std.proofs.Common.{append_assoc}
use Rattle.lf_http.specs.Reply.{version_line, crlf}
use Rattle.lf_http.proofs.reply.put_version_line.Goals as goal

pub returns-clause-items : goal.returns-clause-items
unfolding version_line crlf
returns-clause-items c =
    rw (c.put-2.ensures.items, c.put_number.ensures.items, c.put.ensures.items) (simp append_assoc)
