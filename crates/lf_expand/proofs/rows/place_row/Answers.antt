use Rattle.std.proofs.Common.{◌≡◌, ◌&&◌, true, false}
use Rattle.lf_expand.specs.PlaceData.{place_data, is_listed}
use Rattle.lf_expand.specs.RowData.{needs_list}
use Rattle.lf_expand.proofs.RowLemmas.{placed_once, placed_twice}
use Rattle.lf_expand.proofs.rows.place_row.Goals as goal

pub returns-then-not-wrapped : goal.returns-then-not-wrapped
returns-then-not-wrapped c = λ within.
    let kept : (is_listed (place_data c.args.place.now) && needs_list c.args.row.kind) ≡ false = cc in
    placed_once c.args.rows.now.items c.push_row.new.rows.items (place_data c.args.place.now) c.args.row c.in_ok-number.number kept within c.in_ok-number.ensures.number c.in_ok-number.ensures.pushed

pub returns : goal.returns
returns c = λ within.
    let held : (is_listed (place_data c.args.place.now) && needs_list c.args.row.kind) ≡ true = cc in
    placed_twice c.args.rows.now.items c.push_row.new.rows.items c.wrap_row.new.rows.items (place_data c.args.place.now) c.args.row c.in_ok-number.number c.in_ok-outer.outer held within
    c.in_ok-number.ensures.number c.in_ok-number.ensures.pushed c.in_ok-outer.ensures.number c.in_ok-outer.ensures.pushed
