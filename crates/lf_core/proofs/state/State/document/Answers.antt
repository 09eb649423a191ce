use Rattle.std.proofs.Common.{◌∙◌, ap}
use Rattle.def_scratch.specs.Scratch.{scratch_frame}
use Rattle.lf_core.proofs.Calls.{newest_in}
use Rattle.lf_core.proofs.state.State.document.Goals as goal

pub returns : goal.returns
returns c =
    c.in_ok-frame_dataset.ensures
    ∙ ap (scratch_frame c.args.frame.now)
    (c.index.ensures.quads
    ∙ newest_in c.args.self.now _ c.self.inside.frames.items _ c.self.inside.newest c.self.view_is c.self.invariant.same_commits)
