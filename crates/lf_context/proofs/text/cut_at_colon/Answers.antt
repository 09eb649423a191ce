use Rattle.lf_context.proofs.Texts.{cut_there, uncut-before, uncut-after}
use Rattle.lf_context.proofs.text.cut_at_colon.Goals as goal

pub returns-in-Some-clause-before : goal.returns-in-Some-clause-before
returns-in-Some-clause-before c = (rw c.in-Some.is at (cut_there c.args.text.now c.split_once.result c.split_once.ensures.cases)).0

pub returns-in-Some-clause-after : goal.returns-in-Some-clause-after
returns-in-Some-clause-after c = (rw c.in-Some.is at (cut_there c.args.text.now c.split_once.result c.split_once.ensures.cases)).1

pub returns-in-None-clause-before : goal.returns-in-None-clause-before
returns-in-None-clause-before c = uncut-before c.args.text.now (rw c.in-None.is at (cut_there c.args.text.now c.split_once.result c.split_once.ensures.cases))

pub returns-in-None-clause-after : goal.returns-in-None-clause-after
returns-in-None-clause-after c = uncut-after c.args.text.now (rw c.in-None.is at (cut_there c.args.text.now c.split_once.result c.split_once.ensures.cases))
