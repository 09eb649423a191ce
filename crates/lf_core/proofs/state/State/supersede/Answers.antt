use Rattle.std.proofs.Common.{◌∙◌, ap}
use Rattle.std.specs.Option.{option_map}
use Rattle.lf_core.specs.Kept.{find_kept, number_of}
use Rattle.lf_core.specs.Taken.{Taken}
use Rattle.lf_core.proofs.Calls.{superseded_answer}
use Rattle.lf_core.proofs.state.State.supersede.Goals as goal

pub returns-clause-answer : goal.returns-clause-answer
returns-clause-answer c =
    superseded_answer c.args.self.now _ c.self.inside.frames.items _ c.args.job c.job.inside.frame c.job.inside.text_number c.number_of-now.result
    c.self.view_is c.self.invariant.same_frames c.requires.superseded (ap (λ (job : Taken). job.name) c.job.view_is)
    (ap (λ (job : Taken). job.number) c.job.view_is)
    (c.number_of-now.ensures ∙ (λ i. option_map number_of (find_kept (c.as_str.ensures i) (c.as_slice.ensures.value i))))
