use Rattle.std.proofs.Common.{rules, ◌≡◌, Some, None}
use Rattle.lf_core.specs.Kept.{find_kept}
use Rattle.lf_core.proofs.Calls.{commits_of_seen, live_in, none_in}
use Rattle.lf_core.proofs.Looking.{is_published, looks}
use Rattle.lf_core.proofs.Named.{found_is}
use Rattle.lf_core.proofs.state.State.look.Goals as goal

pub look_at-requires : goal.look_at-requires
look_at-requires c =
    let found : find_kept c.args.name.now c.self.inside.frames.items ≡ Some c.in-Some.kept.now = search rules in
    record {
      shown = is_published c.self.inside.newest c.in-Some.kept.now
          (found_is c.args.name.now c.self.inside.newest c.self.inside.frames.items c.in-Some.kept.now c.self.invariant.are_kept found);
    }

pub returns-in-Some : goal.returns-in-Some
returns-in-Some c =
    let found : find_kept c.args.name.now c.self.inside.frames.items ≡ Some c.in-Some.kept.now = search rules in
    looks c.args.self.now.history c.self.inside.newest c.args.name.now c.in-Some.kept.now c.args.need c.look_at.result
    (live_in c.args.self.now _ c.self.inside.frames.items _ c.args.name.now c.in-Some.kept.now c.self.view_is c.self.invariant.same_frames found)
    (commits_of_seen c.args.self.now _ c.self.inside.frames.items _ c.self.inside.newest c.self.view_is c.self.invariant.same_commits)
    (found_is c.args.name.now c.self.inside.newest c.self.inside.frames.items c.in-Some.kept.now c.self.invariant.are_kept found) c.look_at.ensures

pub returns-in-None : goal.returns-in-None
returns-in-None c =
    let found : find_kept c.args.name.now c.self.inside.frames.items ≡ None = search rules in
    search (rules, none_in c.args.self.now _ c.self.inside.frames.items _ c.args.name.now c.self.view_is c.self.invariant.same_frames found)
