use Rattle.lf_core.proofs.Calls.{boards_held}
use Rattle.lf_core.proofs.state.State.boards_are_of_live.Goals as goal

pub returns : goal.returns
returns c =
    boards_held c.args.self.now _ c.self.inside.frames.items _ c.self.inside.newest c.self.view_is c.self.invariant.same_frames
    c.self.invariant.same_commits c.self.invariant.are_kept
