use Rattle.lf_select.proofs.Cut.{stripped}
use Rattle.lf_select.proofs.text.rest_after.Goals as goal

pub returns-then-start-text : goal.returns-then-start-text
returns-then-start-text c = stripped c.args.text.now c.args.start.now c.strip_prefix.result c.strip_prefix.ensures.cases c.if-start-text.true
