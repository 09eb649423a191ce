use Rattle.std.proofs.Common.{◌≡◌, sym, ◌∙◌, ap, Option, Some, None}
use Rattle.def_histories.specs.declared.live.Live.{Live}
use Rattle.def_turns.specs.Turns.{given_to, kind_of}
use Rattle.lf_board.specs.Boards.{number}
use Rattle.lf_core.specs.Kept.{find_kept}
use Rattle.lf_core.specs.Taken.{Taken}
use Rattle.lf_core.proofs.Calls.{live_in, none_in}
use Rattle.lf_core.proofs.state.State.would_give.Goals as goal

pub returns-in-Some : goal.returns-in-Some
returns-in-Some c =
    let found : find_kept c.args.job.now.name c.self.inside.frames.items ≡ Some c.in-Some.kept.now =
    (λ i. find_kept (sym (c.as_str.ensures ∙ ap (λ (job : Taken). job.name) c.job.view_is) i) (sym c.as_slice.ensures.value i)) ∙ sym c.in-Some.ensures in
    c.kind_given.ensures
    ∙ ap (λ (o : Option Live). kind_of (given_to o c.args.job.now.name c.args.job.now.number (number c.args.job.now.board)))
    (sym (live_in c.args.self.now _ c.self.inside.frames.items _ c.args.job.now.name c.in-Some.kept.now c.self.view_is c.self.invariant.same_frames found))

pub returns-in-None : goal.returns-in-None
returns-in-None c =
    let found : find_kept c.args.job.now.name c.self.inside.frames.items ≡ None =
    (λ i. find_kept (sym (c.as_str.ensures ∙ ap (λ (job : Taken). job.name) c.job.view_is) i) (sym c.as_slice.ensures.value i)) ∙ sym c.in-None.ensures in
    ap (λ (o : Option Live). kind_of (given_to o c.args.job.now.name c.args.job.now.number (number c.args.job.now.board)))
    (sym (none_in c.args.self.now _ c.self.inside.frames.items _ c.args.job.now.name c.self.view_is c.self.invariant.same_frames found))
