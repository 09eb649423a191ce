use Rattle.std.proofs.Common.{◌≡◌, ◌+◌, ◌&&◌, true, false, drop, codes, ap, subst}
use Rattle.lf_rdf.specs.Equality.{text_eq}
use Rattle.lf_model.specs.JsonBridge.{json_data, members_data}
use Rattle.def_contexts.specs.FrameKeys.{meaning_of, node_map}
use Rattle.def_contexts.specs.MapReading.{read_key}
use Rattle.def_contexts.specs.SubFrames.{sub_frame, read_members, reverse_map}
use Rattle.lf_expand.specs.PlaceData.{place_data}
use Rattle.lf_expand.specs.TopFrames.{shown}
use Rattle.lf_expand.proofs.Gathered.{members_at, members_end}
use Rattle.lf_expand.proofs.Going.{Members, GoesOn, goes_on, goes_wrong, ends}
use Rattle.lf_expand.proofs.Tops.{shown_kept, shown_past, shown_none}
use Rattle.lf_expand.proofs.expand.read_top.Goals as goal

pub loop-member-preserved-then-is_passed : goal.loop-member-preserved-then-is_passed
loop-member-preserved-then-is_passed c = λ lists told.
    let table = c.args.terms.now.table.now in
    let read : Members = λ given d. read_members table given node_map (place_data c.args.place.now) d in
    let es = c.args.inner.now.members.now in
    let i = c.loop-member.member-index in
    let e = c.member-item.result in
    let b = c.args.inner.now.has_context in
    let passed : (b && text_eq (codes "@context") e.key) ≡ true = cc in
    subst (GoesOn read c.args.rows.now.items c.loop-member.rows.items c.args.read.now c.loop-member.read lists (shown b (members_data es)))
    (shown_past b (members_data (drop i es)) e.key (json_data e.value) (members_data (drop (i + 1) es)) (members_at es i e c.loop-member-test.true c.member-item.is) passed)
    (c.loop-member.invariant lists told)

pub loop-member-preserved : goal.loop-member-preserved
loop-member-preserved c = λ lists told.
    let table = c.args.terms.now.table.now in
    let place = place_data c.args.place.now in
    let read : Members = λ given d. read_members table given node_map place d in
    let es = c.args.inner.now.members.now in
    let i = c.loop-member.member-index in
    let e = c.member-item.result in
    let b = c.args.inner.now.has_context in
    let kept : (b && text_eq (codes "@context") e.key) ≡ false = cc in
    let h = c.loop-member.invariant lists told in
    goes_on read (λ d. read_key node_map (meaning_of table e.key) table place (json_data e.value) (sub_frame table (json_data e.value)) (reverse_map table (json_data e.value)) d)
    c.args.rows.now.items c.loop-member.rows.items c.read_key.new.rows.items c.args.read.now c.loop-member.read c.read_key.new.read lists
    (shown b (members_data es)) (shown b (members_data (drop i es))) (shown b (members_data (drop (i + 1) es)))
    (λ d. ap (λ ms. read ms d) (shown_kept b (members_data (drop i es)) e.key (json_data e.value) (members_data (drop (i + 1) es)) (members_at es i e c.loop-member-test.true c.member-item.is) kept))
    h (c.in-Ok.ensures h.lists_now h.tells)

pub returns-in-Err : goal.returns-in-Err
returns-in-Err c = λ lists told.
    let table = c.args.terms.now.table.now in
    let place = place_data c.args.place.now in
    let read : Members = λ given d. read_members table given node_map place d in
    let es = c.args.inner.now.members.now in
    let i = c.loop-member.member-index in
    let e = c.member-item.result in
    let b = c.args.inner.now.has_context in
    let kept : (b && text_eq (codes "@context") e.key) ≡ false = cc in
    let h = c.loop-member.invariant lists told in
    goes_wrong read (λ d. read_key node_map (meaning_of table e.key) table place (json_data e.value) (sub_frame table (json_data e.value)) (reverse_map table (json_data e.value)) d)
    c.args.rows.now.items c.loop-member.rows.items c.args.read.now c.loop-member.read lists
    (shown b (members_data es)) (shown b (members_data (drop i es))) (shown b (members_data (drop (i + 1) es))) c.in-Err.error
    (λ d. ap (λ ms. read ms d) (shown_kept b (members_data (drop i es)) e.key (json_data e.value) (members_data (drop (i + 1) es)) (members_at es i e c.loop-member-test.true c.member-item.is) kept))
    h (c.in-Err.ensures h.lists_now h.tells)

pub returns : goal.returns
returns c = λ lists told.
    let table = c.args.terms.now.table.now in
    let read : Members = λ given d. read_members table given node_map (place_data c.args.place.now) d in
    let es = c.args.inner.now.members.now in
    let i = c.loop-member.member-index in
    let b = c.args.inner.now.has_context in
    ends read c.args.rows.now.items c.loop-member.rows.items c.args.read.now c.loop-member.read lists (shown b (members_data es)) (shown b (members_data (drop i es)))
    (λ d. ap (λ ms. read ms d) (shown_none b (members_data (drop i es)) (members_end es i c.loop-member-test.false))) (c.loop-member.invariant lists told)
