use Rattle.std.proofs.Common.{◌≡◌, sym, ◌∙◌, ap, ◌<◌, length, get_or, true, not, Some, None, arith}
use Rattle.std.specs.List.{position}
use Rattle.std.specs.Cmp.Lexicographic.{bytes_decides}
use Rattle.std.proofs.lemmas.List.Quantifiers.{position-Some}
use Rattle.std.proofs.lemmas.List.Edits.{length-remove}
use Rattle.lf_rdf.specs.Equality.{text_eq}
use Rattle.lf_core.specs.declared.frames.Kept.{Kept}
use Rattle.lf_core.specs.Kept.{has_name, without_kept}
use Rattle.lf_core.proofs.Named.{none_left_out, no_place, found_at, left_same}
use Rattle.lf_core.proofs.frames.take_name.Goals as goal

unfound : (c : goal.After-from_residual) → position (has_name c.args.name.now) c.args.frames.now.items ≡ None
unfound c = ap (position (has_name c.args.name.now)) (sym c.as_slice.ensures.value) ∙ sym c.in_err-place.ensures

pub returns-in_err-place-clause-found : goal.returns-in_err-place-clause-found
returns-in_err-place-clause-found c =
    rw c.from_residual.ensures (sym (no_place (has_name c.args.name.now) c.args.frames.now.items (unfound c)))

pub returns-in_err-place-clause-left : goal.returns-in_err-place-clause-left
returns-in_err-place-clause-left c =
    sym (none_left_out (has_name c.args.name.now) c.args.frames.now.items
    (no_place (has_name c.args.name.now) c.args.frames.now.items (unfound c)))

at_place : (c : goal.After-remove_name) → (c.in_ok-place.place < length c.args.frames.now.items)
    × (text_eq c.args.name.now (get_or c.args.frames.now.items c.in_ok-place.place c.remove.result).live.name ≡ true)
at_place c =
    let found : position (has_name c.args.name.now) c.args.frames.now.items ≡ Some c.in_ok-place.place =
    ap (position (has_name c.args.name.now)) (sym c.as_slice.ensures.value) ∙ sym c.in_ok-place.ensures in
    let told = position-Some (has_name c.args.name.now) c.args.frames.now.items c.in_ok-place.place c.remove.result found in
    (told.0, told.1)

pub returns-clause-found : goal.returns-clause-found
returns-clause-found c =
    sym (found_at (has_name c.args.name.now) c.args.frames.now.items c.in_ok-place.place c.remove.result
    (at_place c).0 (at_place c).1)

pub returns-clause-taken : goal.returns-clause-taken
returns-clause-taken c =
    c.name_of-taken.ensures
    ∙ (ap (λ (kept : Kept). kept.live.name) c.remove.ensures.value
    ∙ sym ((bytes_decides c.args.name.now (get_or c.args.frames.now.items c.in_ok-place.place c.remove.result).live.name).0 (at_place c).1))

pub returns-clause-left : goal.returns-clause-left
returns-clause-left c =
    c.remove_name.ensures.left
    ∙ (ap (without_kept c.args.name.now) c.remove.ensures.items
    ∙ left_same (λ (kept : Kept). not (has_name c.args.name.now kept)) c.args.frames.now.items c.in_ok-place.place c.remove.result
    (at_place c).0 (ap not (at_place c).1))

pub returns-clause-shorter : goal.returns-clause-shorter
returns-clause-shorter c =
    omega (
      arith,
      c.remove_name.ensures.shorter,
      ap length c.remove.ensures.items,
      length-remove c.args.frames.now.items c.in_ok-place.place (at_place c).0,
    )
