use Rattle.std.proofs.Common.{◌≡◌, sym, ◌∙◌, ap, Some}
use Rattle.std.specs.Arc.{arc_value}
use Rattle.std.specs.Option.{option_map}
use Rattle.lf_board.specs.Boards.{document, number}
use Rattle.lf_core.specs.Taken.{Taken}
use Rattle.lf_core.proofs.Calls.{came_published, published_boards}
use Rattle.lf_core.proofs.state.State.publish.Goals as goal

named : (c : goal.After-self-1) → c.as_str.result.now ≡ c.args.job.name
named c = c.as_str.ensures ∙ ap (λ (job : Taken). job.name) c.job.view_is

boarded : (c : goal.After-self-1) → c.rest-home.result.0 ≡ c.args.job.board
boarded c = c.rest-home.ensures.board ∙ ap (λ (job : Taken). job.board) c.job.view_is

counted : (c : goal.After-self-1) → number c.args.job.board ≡ Some c.in-Some.version
counted c = ap (λ (job : Taken). number job.board) (sym c.job.view_is) ∙ sym c.in-Some.ensures

handled : (c : goal.After-self-1) → option_map arc_value c.rest-home.result.1 ≡ document c.args.job.board
handled c = c.rest-home.ensures.handle ∙ ap (λ (job : Taken). document job.board) c.job.view_is

pub invariant_of-self : goal.invariant_of-self
invariant_of-self c =
    came_published c.args.self.now _ _ c.self.inside.newest c.self.inside.frames.items c.put_document.new.frames.items _ _ _ _ _ _ _ c.args.job
    c.as_str.result.now c.job.inside.name c.in-Some.version c.rest-home.result.1 c.rest-home.result.0 c.self.view_is c.self.invariant c.requires.fits
    c.requires.newer c.requires.place (counted c) (handled c) (named c) (c.job.invariant ∙ ap (λ (job : Taken). job.name) c.job.view_is) (boarded c)
    c.put_document.ensures.put c.enter.ensures.entered c.enter.ensures.room c.put_document.ensures.room

pub returns-clause-boards : goal.returns-clause-boards
returns-clause-boards c =
    published_boards c.args.self.now _ c.self.inside.frames.items c.put_document.new.frames.items _ c.args.job c.as_str.result.now c.in-Some.version
    c.rest-home.result.1 c.rest-home.result.0 c.self.view_is c.self.invariant.same_frames c.requires.newer (counted c) (named c) (boarded c)
    c.put_document.ensures.put
