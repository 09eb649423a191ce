use Rattle.std.proofs.Common.{◌∙◌, ap, arith}
use Rattle.def_datasets.specs.Sorted.{set_of}
use Rattle.def_datasets.specs.Order.{id_cmp}
use Rattle.lf_lists.proofs.Hearings.{heard_as}
use Rattle.lf_nodes.proofs.Subjects.{subjects_begun, subjects_done, subjects_more}
use Rattle.lf_nodes.proofs.pointing.subjects_of.Goals as goal

pub loop-quad-init : goal.loop-quad-init
loop-quad-init g c = subjects_begun _ _ _ _ _ c.new-found.ensures.items

pub loop-quad-preserved : goal.loop-quad-preserved
loop-quad-preserved g c =
    subjects_more c.loop-quad.invariant c.quad-item.result c.loop-quad-test.true c.quad-item.is _ c.in_ok-put_subject.ensures.put
    c.in_ok-put_subject.ensures.quads_stay

pub returns-clause-subjects : goal.returns-clause-subjects
returns-clause-subjects g c =
    heard_as (λ question near. near) (λ other e. c.in_ok-subjects.ensures ∙ ap (set_of id_cmp) e) (subjects_done c.loop-quad.invariant (omega arith))
