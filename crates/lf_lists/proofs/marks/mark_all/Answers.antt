use Rattle.lf_lists.proofs.Marking.{union_marks}
use Rattle.lf_lists.proofs.marks.mark_all.Goals as goal

pub returns : goal.returns
returns c = union_marks c.args.marks.now.keys c.args.more.now.keys c.append.new.self.keys c.in_ok-append.ensures.inserts_all.0
