use Rattle.std.proofs.Common.{◌≡◌, refl, sym, ◌∙◌, ap, false, Option, Some, None, is_some, slice_set}
use Rattle.std.proofs.lemmas.Bool.{false≢true}
use Rattle.std.specs.List.{position}
use Rattle.lf_board.specs.Boards.{Shown}
use Rattle.lf_core.specs.declared.frames.Kept.{Kept}
use Rattle.lf_core.specs.Kept.{board_of, find_kept, has_name, without_board}
use Rattle.lf_core.proofs.Updating.{found_at, none_updated, updated_at}
use Rattle.lf_core.proofs.Named.{no_place}
use Rattle.lf_core.proofs.frames.take_home.Goals as goal

none_board : (found : Option Kept) → is_some found ≡ false → board_of found ≡ None
none_board None e = refl
none_board (Some kept) e = absurd (false≢true (sym e))

unplaced : (c : goal.After-from_residual) → is_some (find_kept c.args.name.now c.args.frames.now.items) ≡ false
unplaced c =
    no_place (has_name c.args.name.now) c.args.frames.now.items
    (ap (position (has_name c.args.name.now)) (sym c.as_slice.ensures.value) ∙ sym c.in_err-place.ensures)

pub returns-in_err-place-clause-board : goal.returns-in_err-place-clause-board
returns-in_err-place-clause-board c =
    c.from_residual.ensures ∙ sym (none_board (find_kept c.args.name.now c.args.frames.now.items) (unplaced c))

pub returns-in_err-place-clause-left : goal.returns-in_err-place-clause-left
returns-in_err-place-clause-left c = sym (none_updated c.args.name.now without_board c.args.frames.now.items (unplaced c))

pub returns-clause-board : goal.returns-clause-board
returns-clause-board c =
    c.take.ensures.value
    ∙ sym
    (ap board_of
    (found_at c.args.name.now c.args.frames.now.items c.in_ok-place.place c.index_mut.result.now
    (c.in_ok-place.ensures ∙ ap (position (has_name c.args.name.now)) c.as_slice.ensures.value) c.index_mut.ensures.value))

pub returns-clause-left : goal.returns-clause-left
returns-clause-left c =
    ap (λ (o : Option Shown).
    slice_set c.args.frames.now.items c.in_ok-place.place
    (record { live = c.index_mut.result.now.live; frame = c.index_mut.result.now.frame; board = o; doc = c.index_mut.result.now.doc })) c.take.ensures.after
    ∙ updated_at c.args.name.now without_board c.args.frames.now.items c.in_ok-place.place c.index_mut.result.now
    (c.in_ok-place.ensures ∙ ap (position (has_name c.args.name.now)) c.as_slice.ensures.value) c.index_mut.ensures.value
