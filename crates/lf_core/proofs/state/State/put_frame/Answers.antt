use Rattle.std.proofs.Common.{arith, rules}
use Rattle.lf_core.proofs.Calls.{new_board, number_fits, registered_in, seat_fits, text_fits}
use Rattle.lf_core.proofs.state.State.put_frame.Goals as goal

pub overflow_add-self : goal.overflow_add-self
overflow_add-self c =
    omega (
      arith,
      number_fits c.args.self.now _ c.self.inside.frames.items _ c.self.inside.registrations c.args.new c.self.view_is c.self.invariant.counts_texts
          c.requires.legal,
    )

pub overflow_add-self-2 : goal.overflow_add-self-2
overflow_add-self-2 c =
    omega (
      arith,
      text_fits c.args.self.now _ c.self.inside.frames.items _ c.self.inside.bytes c.args.new c.as_str-2.result.now c.self.view_is
          c.self.invariant.counts_bytes c.requires.legal c.as_str-2.ensures,
    )

pub enter_frame-requires : goal.enter_frame-requires
enter_frame-requires c =
    let low =
    seat_fits c.args.self.now _ c.self.inside.frames.items c.remove_name.new.frames.items _ _ _ c.args.new c.as_str.result.now c.self.view_is
    c.self.invariant.same_frames c.self.invariant.has_seats c.requires.legal c.as_str.ensures c.remove_name.ensures.left c.remove_name.ensures.room in
    search (rules, low)

pub invariant_of-self : goal.invariant_of-self
invariant_of-self c =
    registered_in c.args.self.now _ _ c.self.inside.newest c.self.inside.frames.items c.remove_name.new.frames.items c.enter_frame.new.frames.items
    c.self.inside.registrations c.self.inside.bytes _ _ _ _ _ _ c.args.new c.as_str.result.now c.as_str-2.result.now c.self.view_is c.self.invariant
    c.requires.new c.requires.legal c.requires.place c.as_str.ensures c.as_str-2.ensures c.remove_name.ensures.left c.remove_name.ensures.shorter
    c.enter_frame.ensures.entered c.enter.ensures.entered c.enter.ensures.room c.remove_name.ensures.room c.enter_frame.ensures.room

pub returns-clause-boards : goal.returns-clause-boards
returns-clause-boards c =
    new_board c.args.self.now _ c.self.inside.frames.items c.remove_name.new.frames.items c.enter_frame.new.frames.items _ c.self.inside.registrations
    c.args.new c.as_str.result.now c.self.view_is c.self.invariant.counts_texts c.requires.new c.as_str.ensures c.remove_name.ensures.left
    c.enter_frame.ensures.entered
