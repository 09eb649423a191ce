use Rattle.std.proofs.Common.{◌≡◌, ◌∙◌, ap}
use Rattle.lf_core.specs.Taken.{Taken}
use Rattle.lf_core.proofs.Calls.{came_home, home_boards}
use Rattle.lf_core.proofs.state.State.bring_home.Goals as goal

named : (c : goal.After-put_home) → c.as_str.result.now ≡ c.args.job.name
named c = c.as_str.ensures ∙ ap (λ (job : Taken). job.name) c.job.view_is

boarded : (c : goal.After-put_home) → c.rest-home.result.0 ≡ c.args.job.board
boarded c = c.rest-home.ensures.board ∙ ap (λ (job : Taken). job.board) c.job.view_is

pub invariant_of-self : goal.invariant_of-self
invariant_of-self c =
    came_home c.args.self.now _ c.self.inside.newest c.self.inside.frames.items c.put_home.new.frames.items _ _ _ _ _ _ c.args.job
    c.as_str.result.now c.rest-home.result.0 c.self.view_is c.self.invariant c.requires.fits c.requires.live (named c) (boarded c) c.put_home.ensures.put
    c.put_home.ensures.room

pub returns-clause-boards : goal.returns-clause-boards
returns-clause-boards c =
    home_boards c.args.self.now _ c.self.inside.frames.items c.put_home.new.frames.items _ c.args.job c.as_str.result.now c.rest-home.result.0
    c.self.view_is c.self.invariant.same_frames c.requires.live (named c) (boarded c) c.put_home.ensures.put
