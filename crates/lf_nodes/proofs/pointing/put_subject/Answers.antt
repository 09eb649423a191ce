use Rattle.std.proofs.Common.{◌∙◌, sym, rules}
use Rattle.lf_lists.proofs.Hearings.{heard, heard_as}
use Rattle.lf_nodes.proofs.Subjects.{subject_left, subject_put}
use Rattle.lf_nodes.proofs.pointing.put_subject.Goals as goal

pub returns-then-not-key-clause-put : goal.returns-then-not-key-clause-put
returns-then-not-key-clause-put g c =
    heard_as (λ question near. near) (λ other e. subject_left other c.args.quad.now _ (sym c.if-not-key.true ∙ e)) (heard c.in_ok-key.ensures.key)

pub returns-clause-put : goal.returns-clause-put
returns-clause-put g c =
    heard_as (λ question near. near) (λ other e. subject_put other c.args.quad.now _ _ (sym c.if-not-key.false ∙ e) (search rules))
    (heard c.in_ok-key.ensures.key)
