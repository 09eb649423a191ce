use Rattle.std.proofs.Common.{◌∙◌, ap, List, length}
use Rattle.def_histories.specs.declared.live.Live.{Live}
use Rattle.def_histories.specs.History.{without, live_frames}
use Rattle.lf_core.specs.declared.frames.Kept.{Kept}
use Rattle.lf_core.specs.Held.{Seen}
use Rattle.lf_core.specs.Kept.{without_kept}
use Rattle.lf_core.proofs.Named.{without_lives_length}
use Rattle.lf_core.proofs.state.State.others.Goals as goal

pub returns : goal.returns
returns c =
    c.others.ensures
    ∙ (ap (λ (frames : List Kept). length (without_kept c.args.name.now frames)) c.as_slice.ensures.value
    ∙ (without_lives_length c.args.name.now c.self.inside.frames.items
    ∙ (ap (λ (frames : List Live). length (without c.args.name.now frames)) c.self.invariant.same_frames
    ∙ ap (λ (seen : Seen). length (without c.args.name.now (live_frames seen.history))) c.self.view_is)))
