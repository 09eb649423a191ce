use Rattle.std.proofs.Common.{◌∙◌}
use Rattle.lf_lists.proofs.Marking.{same_search}
use Rattle.lf_lists.proofs.marks.is_marked.Goals as goal

pub returns-in-Blank : goal.returns-in-Blank
returns-in-Blank c = rw c.in-Blank.is (c.contains.ensures ∙ same_search c.in-Blank.label c.args.marks.now.keys)
