use Rattle.std.proofs.Common.{◌∙◌, ap}
use Rattle.def_datasets.specs.Questions.{answers_of}
use Rattle.def_datasets.specs.Cells.{subject_of, user_of}
use Rattle.lf_lists.proofs.Hearings.{heard, learnt}
use Rattle.lf_lists.proofs.cell.user.Goals as goal

pub returns-clause-user : goal.returns-clause-user
returns-clause-user g c =
    learnt (heard c.in_ok-uses.ensures.quads) (λ other. user_of (answers_of other) c.args.node.now) c.in_ok-subject.subject
    (λ other e. c.in_ok-subject.ensures ∙ (ap subject_of c.as_slice.ensures ∙ ap subject_of e))
