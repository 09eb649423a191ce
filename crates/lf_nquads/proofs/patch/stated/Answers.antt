use Rattle.lf_nquads.proofs.PatchProofs.{judges_text}
use Rattle.lf_nquads.proofs.patch.stated.Goals as goal

pub returns-in-Ok : goal.returns-in-Ok
returns-in-Ok c =
    judges_text c.args.line.now c.in-Ok.text.now c.read_line.result c.if-line-gt-LINE_LIMIT.false c.in-Ok.ensures.cases.0 c.in-Ok.ensures.cases.1 c.read_line.ensures
