use Rattle.std.proofs.Common.{◌∙◌}
use Rattle.lf_core.proofs.Calls.{versions_in}
use Rattle.lf_core.proofs.state.State.versions.Goals as goal

pub returns : goal.returns
returns c =
    c.number.ensures
    ∙ versions_in c.args.self.now _ c.self.inside.frames.items _ c.self.inside.newest c.self.view_is c.self.invariant.same_commits
