use Rattle.std.proofs.Common.{rules, ◌≡◌, Some, None}
use Rattle.lf_core.specs.Kept.{find_kept}
use Rattle.lf_core.proofs.Calls.{means_live, means_none}
use Rattle.lf_core.proofs.state.State.frame_of.Goals as goal

pub returns-in-Some : goal.returns-in-Some
returns-in-Some c =
    let found : find_kept c.args.name.now c.self.inside.frames.items ≡ Some c.in-Some.kept.now = search rules in
    means_live c.args.self.now _ c.self.inside.frames.items _ c.self.inside.newest c.args.name.now c.in-Some.kept.now c.self.view_is
    c.self.invariant.same_frames c.self.invariant.are_kept found

pub returns-in-None : goal.returns-in-None
returns-in-None c =
    let found : find_kept c.args.name.now c.self.inside.frames.items ≡ None = search rules in
    means_none c.args.self.now _ c.self.inside.frames.items _ c.args.name.now c.self.view_is c.self.invariant.same_frames found
