use Rattle.std.proofs.Common.{rules, ◌≡◌, ◌∙◌, ap, Some, None}
use Rattle.lf_frames.specs.FrameTexts.{document}
use Rattle.lf_frames.proofs.Accepting.{read_frames_give_documents}
use Rattle.lf_core.specs.Kept.{find_kept}
use Rattle.lf_core.proofs.Calls.{live_in, newest_in, none_in, versions_in}
use Rattle.lf_core.proofs.Named.{found_is}
use Rattle.lf_core.proofs.state.State.frame_now.Goals as goal

pub returns-in_ok-frame_dataset-in-Some : goal.returns-in_ok-frame_dataset-in-Some
returns-in_ok-frame_dataset-in-Some c =
    let found : find_kept c.args.name.now c.self.inside.frames.items ≡ Some c.in-Some.kept.now = search rules in (
      c.in-Some.kept.now.live,
      live_in c.args.self.now _ c.self.inside.frames.items _ c.args.name.now c.in-Some.kept.now c.self.view_is c.self.invariant.same_frames found,
      c.number.ensures
          ∙ versions_in c.args.self.now _ c.self.inside.frames.items _ c.self.inside.newest c.self.view_is c.self.invariant.same_commits,
      c.in_ok-frame_dataset-in-Some.ensures
          ∙ (read_frames_give_documents c.in-Some.kept.now.live.text c.in-Some.kept.now.frame c.index.result.now
          (found_is c.args.name.now c.self.inside.newest c.self.inside.frames.items c.in-Some.kept.now c.self.invariant.are_kept found).read
          ∙ ap (document c.in-Some.kept.now.live.text)
          (c.index.ensures.quads
          ∙ newest_in c.args.self.now _ c.self.inside.frames.items _ c.self.inside.newest c.self.view_is c.self.invariant.same_commits)),
    )

pub returns-in-None : goal.returns-in-None
returns-in-None c =
    let found : find_kept c.args.name.now c.self.inside.frames.items ≡ None = search rules in
    none_in c.args.self.now _ c.self.inside.frames.items _ c.args.name.now c.self.view_is c.self.invariant.same_frames found
