use Rattle.std.proofs.Common.{sym, ◌∙◌}
use Rattle.lf_core.specs.Kept.{has_name}
use Rattle.lf_core.proofs.Calls.{is_live_in, others_in, retired_in, same_boards, stays_in}
use Rattle.lf_core.proofs.Named.{none_left_out}
use Rattle.lf_core.proofs.state.State.retire.Goals as goal

pub invariant_of-self : goal.invariant_of-self
invariant_of-self c =
    retired_in _ _ c.self.inside.newest c.self.inside.frames.items c.take_name.new.frames.items _ _ _ _ _ _ _ c.args.seat c.args.name.now c.in-Some.name
    c.self.invariant (sym c.in-Some.ensures.found) c.in-Some.ensures.taken c.enter.ensures.entered c.in-Some.ensures.left c.in-Some.ensures.shorter
    c.enter.ensures.room c.in-Some.ensures.room

pub invariant_of-self-in-None : goal.invariant_of-self-in-None
invariant_of-self-in-None c =
    stays_in _ c.self.inside.newest c.self.inside.frames.items c.take_name.new.frames.items _ _ _ _ _ _ c.self.invariant
    (c.in-None.ensures.left ∙ none_left_out (has_name c.args.name.now) c.self.inside.frames.items (sym c.in-None.ensures.found)) c.in-None.ensures.room

pub returns-in-Some-clause-answer : goal.returns-in-Some-clause-answer
returns-in-Some-clause-answer c =
    c.in-Some.ensures.found
    ∙ is_live_in c.args.self.now _ c.self.inside.frames.items _ c.args.name.now c.self.view_is c.self.invariant.same_frames

pub returns-in-Some-clause-boards : goal.returns-in-Some-clause-boards
returns-in-Some-clause-boards c =
    others_in c.args.self.now _ c.self.inside.frames.items c.take_name.new.frames.items _ c.args.name.now c.self.view_is c.in-Some.ensures.left

pub returns-in-None-clause-answer : goal.returns-in-None-clause-answer
returns-in-None-clause-answer c =
    c.in-None.ensures.found
    ∙ is_live_in c.args.self.now _ c.self.inside.frames.items _ c.args.name.now c.self.view_is c.self.invariant.same_frames

pub returns-in-None-clause-boards : goal.returns-in-None-clause-boards
returns-in-None-clause-boards c =
    same_boards c.args.self.now _ c.self.inside.frames.items c.take_name.new.frames.items _ c.self.view_is
    (c.in-None.ensures.left ∙ none_left_out (has_name c.args.name.now) c.self.inside.frames.items (sym c.in-None.ensures.found))
