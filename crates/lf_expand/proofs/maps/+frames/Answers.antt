use Rattle.std.proofs.Common.{◌≡◌, ◌+◌, true, false, ◌||◌, length, drop, codes, sym, ap, subst, ◌∙◌, rules}
use Rattle.std.specs.Option.{option_copied}
use Rattle.lf_model.specs.JsonBridge.{json_data, members_data}
use Rattle.def_contexts.specs.FrameKeys.{meaning_of, is_the_keyword, keyword, property, reverse_property, node_map, list_key}
use Rattle.def_contexts.specs.Places.{of_reverse}
use Rattle.def_contexts.specs.MapReading.{read_key, read_keyword, read_list_key, read_property, read_reverse, read_reverse_key}
use Rattle.def_contexts.specs.SubFrames.{sub_frame, read_members, set_value, set_or, reverse_map, reverse_members}
use Rattle.lf_expand.specs.Gives.{Fails}
use Rattle.lf_expand.specs.KeptKeys.{class_data}
use Rattle.lf_expand.specs.KeyData.{key_data}
use Rattle.def_contexts.specs.FrameKeys as keys
use Rattle.lf_expand.specs.PlaceData.{place_data}
use Rattle.lf_expand.specs.RowData.{built, seen_row, RowWithin, IsPlaced}
use Rattle.def_contexts.specs.Places.{placed}
use Rattle.lf_expand.specs.ReadingData.{Told, reading_of, Finds, Reads, IsFound, IsRead, has_key, keyword_added, property_given, reverse_given, graph_given, unread}
use Rattle.lf_expand.proofs.Gathered.{members_at, members_end}
use Rattle.lf_expand.proofs.Values.{map_value}
use Rattle.lf_expand.proofs.Going.{Members, goes_on, goes_wrong, ends}
use Rattle.lf_expand.proofs.ReadingLemmas.{property_read, reverse_read}
use Rattle.lf_expand.proofs.Steps.{graph_key_is, item_key_is, graph_read, item_read, flat_read, keyword_read, map_found, map_fails, no_lists, told_unread}
use Rattle.lf_expand.proofs.maps.+frames.Goals as goal

pub sub_frame-returns-in-Map : goal.sub_frame-returns-in-Map
sub_frame-returns-in-Map t c =
    subst (λ v. Finds c.args.rows.now.items c.map_frame.new.rows.items (place_data c.args.place.now) c.map_frame.result (sub_frame c.args.terms.now.table.now v (place_data c.args.place.now)))
    (sym (map_value c.args.value.now c.in-Map.members c.in-Map.is)) c.map_frame.ensures

pub set_frame-returns-then-branch : goal.set_frame-returns-then-branch
set_frame-returns-then-branch t c =
    let table = c.args.terms.now.table.now in
    let place = place_data c.args.place.now in
    let es = c.as_slice-member-items.result.now in
    let i = c.loop-member.member-index in
    let e = c.member-item.result in
    let set : is_the_keyword (codes "@set") (meaning_of table e.key) ≡ true = search rules in
    subst (λ d. Finds c.args.rows.now.items c.sub_frame.new.rows.items place c.sub_frame.result d)
    (sym (ap (λ ms. set_value table (members_data ms) place) (sym c.as_slice-member-items.ensures.entries)
    ∙ c.loop-member.invariant.1
    ∙ ap (λ ms. set_value table ms place) (members_at es i e c.loop-member-test.true c.member-item.is)
    ∙ ap (λ b. set_or b (sub_frame table (json_data e.value)) (set_value table (members_data (drop (i + 1) es))) place) set))
    (subst (λ rows. Finds rows c.sub_frame.new.rows.items place c.sub_frame.result (sub_frame table (json_data e.value) place)) c.loop-member.invariant.0 c.sub_frame.ensures)

pub keys_frame-returns-in_ok-number-in-Ok : goal.keys_frame-returns-in_ok-number-in-Ok
keys_frame-returns-in_ok-number-in-Ok t c =
    let old = c.args.rows.now.items in
    let mid = c.read_members.new.rows.items in
    let place = place_data c.args.place.now in
    let r = c.read_members.new.read in
    let read : IsRead old mid r (read_members c.args.terms.now.table.now (members_data c.args.members.now) (class_data c.args.class) place (reading_of (built old) unread no_lists)) =
    subst (λ before. Told (length old) before no_lists → IsRead old mid r (read_members c.args.terms.now.table.now (members_data c.args.members.now) (class_data c.args.class) place (reading_of (built old) before no_lists)))
    c.unread-read.ensures (c.in-Ok.ensures no_lists) (told_unread (length old)) in
    map_found old mid c.place_row.new.rows.items c.args.class place r _ c.in_ok-number-in-Ok.number read
    (subst (λ row. RowWithin (length mid) row → IsPlaced mid c.place_row.new.rows.items c.in_ok-number-in-Ok.number (placed place (seen_row (built mid) row)))
    c.into_row.ensures c.in_ok-number-in-Ok.ensures)

pub keys_frame-returns-in-Err : goal.keys_frame-returns-in-Err
keys_frame-returns-in-Err t c =
    let old = c.args.rows.now.items in
    let place = place_data c.args.place.now in
    map_fails (class_data c.args.class) place _ c.in-Err.error
    (subst (λ before. Told (length old) before no_lists → Fails c.in-Err.error (read_members c.args.terms.now.table.now (members_data c.args.members.now) (class_data c.args.class) place (reading_of (built old) before no_lists)))
    c.unread-read.ensures (c.in-Err.ensures no_lists) (told_unread (length old)))

pub read_members-loop-member-preserved : goal.read_members-loop-member-preserved
read_members-loop-member-preserved t c = λ lists told.
    let table = c.args.terms.now.table.now in
    let place = place_data c.args.place.now in
    let read : Members = λ given d. read_members table given (class_data c.args.class) place d in
    let es = c.as_slice-member-items.result.now in
    let i = c.loop-member.member-index in
    let e = c.member-item.result in
    let h = c.loop-member.invariant lists told in
    goes_on read (λ d. read_key (class_data c.args.class) (meaning_of table e.key) table place (json_data e.value) (sub_frame table (json_data e.value)) (reverse_map table (json_data e.value)) d)
    c.args.rows.now.items c.loop-member.rows.items c.read_key.new.rows.items c.args.read.now c.loop-member.read c.read_key.new.read lists
    (members_data es) (members_data (drop i es)) (members_data (drop (i + 1) es))
    (λ d. ap (λ ms. read ms d) (members_at es i e c.loop-member-test.true c.member-item.is)) h (c.in-Ok.ensures h.lists_now h.tells)

pub read_members-returns-in-Err : goal.read_members-returns-in-Err
read_members-returns-in-Err t c = λ lists told.
    let table = c.args.terms.now.table.now in
    let place = place_data c.args.place.now in
    let read : Members = λ given d. read_members table given (class_data c.args.class) place d in
    let es = c.as_slice-member-items.result.now in
    let i = c.loop-member.member-index in
    let e = c.member-item.result in
    let h = c.loop-member.invariant lists told in
    subst (λ ms. Fails c.in-Err.error (read_members table (members_data ms) (class_data c.args.class) place (reading_of (built c.args.rows.now.items) c.args.read.now lists)))
    c.as_slice-member-items.ensures.entries
    (goes_wrong read (λ d. read_key (class_data c.args.class) (meaning_of table e.key) table place (json_data e.value) (sub_frame table (json_data e.value)) (reverse_map table (json_data e.value)) d)
    c.args.rows.now.items c.loop-member.rows.items c.args.read.now c.loop-member.read lists
    (members_data es) (members_data (drop i es)) (members_data (drop (i + 1) es)) c.in-Err.error
    (λ d. ap (λ ms. read ms d) (members_at es i e c.loop-member-test.true c.member-item.is)) h (c.in-Err.ensures h.lists_now h.tells))

pub read_members-returns : goal.read_members-returns
read_members-returns t c = λ lists told.
    let table = c.args.terms.now.table.now in
    let place = place_data c.args.place.now in
    let read : Members = λ given d. read_members table given (class_data c.args.class) place d in
    let es = c.as_slice-member-items.result.now in
    let i = c.loop-member.member-index in
    subst (λ ms. IsRead c.args.rows.now.items c.loop-member.rows.items c.loop-member.read (read_members table (members_data ms) (class_data c.args.class) place (reading_of (built c.args.rows.now.items) c.args.read.now lists)))
    c.as_slice-member-items.ensures.entries
    (ends read c.args.rows.now.items c.loop-member.rows.items c.args.read.now c.loop-member.read lists (members_data es) (members_data (drop i es))
    (λ d. ap (λ ms. read ms d) (members_end es i c.loop-member-test.false)) (c.loop-member.invariant lists told))

pub read_reverse_members-loop-member-preserved : goal.read_reverse_members-loop-member-preserved
read_reverse_members-loop-member-preserved t c = λ lists told.
    let table = c.args.terms.now.table.now in
    let read : Members = λ given d. reverse_members table given d in
    let es = c.as_slice-member-items.result.now in
    let i = c.loop-member.member-index in
    let e = c.member-item.result in
    let h = c.loop-member.invariant lists told in
    goes_on read (λ d. read_reverse_key (meaning_of table e.key) (sub_frame table (json_data e.value)) d)
    c.args.rows.now.items c.loop-member.rows.items c.read_reverse_key.new.rows.items c.args.read.now c.loop-member.read c.read_reverse_key.new.read lists
    (members_data es) (members_data (drop i es)) (members_data (drop (i + 1) es))
    (λ d. ap (λ ms. read ms d) (members_at es i e c.loop-member-test.true c.member-item.is)) h (c.in-Ok.ensures h.lists_now h.tells)

pub read_reverse_members-returns-in-Err : goal.read_reverse_members-returns-in-Err
read_reverse_members-returns-in-Err t c = λ lists told.
    let table = c.args.terms.now.table.now in
    let read : Members = λ given d. reverse_members table given d in
    let es = c.as_slice-member-items.result.now in
    let i = c.loop-member.member-index in
    let e = c.member-item.result in
    let h = c.loop-member.invariant lists told in
    subst (λ ms. Fails c.in-Err.error (reverse_members table (members_data ms) (reading_of (built c.args.rows.now.items) c.args.read.now lists)))
    c.as_slice-member-items.ensures.entries
    (goes_wrong read (λ d. read_reverse_key (meaning_of table e.key) (sub_frame table (json_data e.value)) d)
    c.args.rows.now.items c.loop-member.rows.items c.args.read.now c.loop-member.read lists
    (members_data es) (members_data (drop i es)) (members_data (drop (i + 1) es)) c.in-Err.error
    (λ d. ap (λ ms. read ms d) (members_at es i e c.loop-member-test.true c.member-item.is)) h (c.in-Err.ensures h.lists_now h.tells))

pub read_reverse_members-returns : goal.read_reverse_members-returns
read_reverse_members-returns t c = λ lists told.
    let table = c.args.terms.now.table.now in
    let read : Members = λ given d. reverse_members table given d in
    let es = c.as_slice-member-items.result.now in
    let i = c.loop-member.member-index in
    subst (λ ms. IsRead c.args.rows.now.items c.loop-member.rows.items c.loop-member.read (reverse_members table (members_data ms) (reading_of (built c.args.rows.now.items) c.args.read.now lists)))
    c.as_slice-member-items.ensures.entries
    (ends read c.args.rows.now.items c.loop-member.rows.items c.args.read.now c.loop-member.read lists (members_data es) (members_data (drop i es))
    (λ d. ap (λ ms. read ms d) (members_end es i c.loop-member-test.false)) (c.loop-member.invariant lists told))

pub read_reverses-returns-in-Map : goal.read_reverses-returns-in-Map
read_reverses-returns-in-Map t c = λ lists told.
    subst (λ v. Reads c.args.rows.now.items c.read_reverse_members.new.rows.items c.read_reverse_members.new.read c.read_reverse_members.result (reverse_map c.args.terms.now.table.now v (reading_of (built c.args.rows.now.items) c.args.read.now lists)))
    (sym (map_value c.args.value.now c.in-Map.members c.in-Map.is)) (c.read_reverse_members.ensures lists told)

pub read_key-returns-in-Keyword : goal.read_key-returns-in-Keyword
read_key-returns-in-Keyword t c = λ lists told.
    let table = c.args.terms.now.table.now in
    let value = json_data c.args.value.now in
    let m : keyword c.in-Keyword.name ≡ meaning_of table c.args.key.now = search rules in
    subst (λ x. Reads c.args.rows.now.items c.read_keyword.new.rows.items c.read_keyword.new.read c.read_keyword.result (read_key (class_data c.args.class) x table (place_data c.args.place.now) value (sub_frame table value) (reverse_map table value) (reading_of (built c.args.rows.now.items) c.args.read.now lists)))
    m (c.read_keyword.ensures lists told)

pub read_key-returns-in-Node : goal.read_key-returns-in-Node
read_key-returns-in-Node t c = λ lists told.
    let table = c.args.terms.now.table.now in
    let value = json_data c.args.value.now in
    let d = reading_of (built c.args.rows.now.items) c.args.read.now lists in
    let m : property c.in-Property.iri (option_copied c.in-Property.term) ≡ meaning_of table c.args.key.now = search rules in
    let node : node_map ≡ class_data c.args.class = search rules in
    subst (λ k. Reads c.args.rows.now.items c.read_property.new.rows.items c.read_property.new.read c.read_property.result (read_key k (meaning_of table c.args.key.now) table (place_data c.args.place.now) value (sub_frame table value) (reverse_map table value) d)) node
    (subst (λ x. Reads c.args.rows.now.items c.read_property.new.rows.items c.read_property.new.read c.read_property.result (read_key node_map x table (place_data c.args.place.now) value (sub_frame table value) (reverse_map table value) d)) m
    (c.read_property.ensures lists told))

pub read_key-returns-in-Node-class : goal.read_key-returns-in-Node-class
read_key-returns-in-Node-class t c = λ lists told.
    let table = c.args.terms.now.table.now in
    let value = json_data c.args.value.now in
    let d = reading_of (built c.args.rows.now.items) c.args.read.now lists in
    let m : reverse_property c.in-Reverse.iri ≡ meaning_of table c.args.key.now = search rules in
    let node : node_map ≡ class_data c.args.class = search rules in
    subst (λ k. Reads c.args.rows.now.items c.read_reverse.new.rows.items c.read_reverse.new.read c.read_reverse.result (read_key k (meaning_of table c.args.key.now) table (place_data c.args.place.now) value (sub_frame table value) (reverse_map table value) d)) node
    (subst (λ x. Reads c.args.rows.now.items c.read_reverse.new.rows.items c.read_reverse.new.read c.read_reverse.result (read_key node_map x table (place_data c.args.place.now) value (sub_frame table value) (reverse_map table value) d)) m
    (c.read_reverse.ensures lists told))

pub read_reverse_key-returns : goal.read_reverse_key-returns
read_reverse_key-returns t c = λ lists told.
    let table = c.args.terms.now.table.now in
    let value = json_data c.args.value.now in
    let m : property c.in-Property.iri (option_copied c.in-Property._term) ≡ meaning_of table c.args.key.now = search rules in
    subst (λ x. Reads c.args.rows.now.items c.read_reverse.new.rows.items c.read_reverse.new.read c.read_reverse.result (read_reverse_key x (sub_frame table value) (reading_of (built c.args.rows.now.items) c.args.read.now lists))) m
    (c.read_reverse.ensures lists told)

pub read_property-returns-in_ok-give_property-in-Ok : goal.read_property-returns-in_ok-give_property-in-Ok
read_property-returns-in_ok-give_property-in-Ok t c = λ lists told.
    let value = json_data c.args.value.now in
    let sub = sub_frame c.args.terms.now.table.now value in
    let given : c.give_property.new.self ≡ property_given c.args.iri c.in-Ok.found c.args.read.now = search rules in
    let fresh : (has_key c.args.iri c.args.read.now.props || has_key c.args.iri c.args.read.now.dropped) ≡ false = search rules in
    subst (λ r. IsRead c.args.rows.now.items c.sub_frame.new.rows.items r (read_property c.args.iri (option_copied c.args.term) sub (reading_of (built c.args.rows.now.items) c.args.read.now lists))) (sym given)
    (property_read c.args.rows.now.items c.sub_frame.new.rows.items c.args.iri (option_copied c.args.term) sub c.in-Ok.found c.args.read.now lists told fresh c.in-Ok.ensures)

pub read_reverse-returns-in_ok-give_reverse-in-Ok-Numbered : goal.read_reverse-returns-in_ok-give_reverse-in-Ok-Numbered
read_reverse-returns-in_ok-give_reverse-in-Ok-Numbered t c = λ lists told.
    let value = json_data c.args.value.now in
    let sub = sub_frame c.args.terms.now.table.now value in
    let given : c.give_reverse.new.self ≡ reverse_given c.args.iri c.in-Ok-Numbered.number c.args.read.now = search rules in
    let fresh : has_key c.args.iri c.args.read.now.reverse ≡ false = search rules in
    subst (λ r. IsRead c.args.rows.now.items c.sub_frame.new.rows.items r (read_reverse c.args.iri sub (reading_of (built c.args.rows.now.items) c.args.read.now lists))) (sym given)
    (reverse_read c.args.rows.now.items c.sub_frame.new.rows.items c.args.iri sub c.in-Ok-Numbered.number c.args.read.now lists told fresh
    (subst (λ f. IsFound c.args.rows.now.items c.sub_frame.new.rows.items of_reverse f (sub of_reverse)) c.in-Ok-Numbered.field-0-is c.in-Ok-Numbered.ensures))

pub read_keyword-returns : goal.read_keyword-returns
read_keyword-returns t c = λ lists told.
    let table = c.args.terms.now.table.now in
    let value = json_data c.args.value.now in
    let fresh : has_key c.args.name c.args.read.now.keywords ≡ false = search rules in
    let is : key_data c.frame_key-key.result ≡ keys.frame_key c.args.name = search rules in
    let added : c.add_keyword.new.self ≡ keyword_added c.args.name c.args.read.now = search rules in
    keyword_read c.args.class c.frame_key-key.result c.args.name table (place_data c.args.place.now) value (sub_frame table value) (reverse_map table value)
    c.args.rows.now.items c.read_frame_key.new.rows.items c.args.read.now c.add_keyword.new.self c.read_frame_key.new.read lists c.read_frame_key.result
    fresh is added c.read_frame_key.ensures told

pub read_frame_key-returns-in-NoFrame : goal.read_frame_key-returns-in-NoFrame
read_frame_key-returns-in-NoFrame t c = λ lists told.
    let table = c.args.terms.now.table.now in
    let value = json_data c.args.value.now in
    let old = c.args.rows.now.items in
    flat_read old c.args.read.now c.read_flat_key.new.read lists c.read_flat_key.result _
    (c.read_flat_key.ensures.stated (built old) (sub_frame table value) (reverse_map table value) lists) (c.read_flat_key.ensures.same (length old) lists) told

pub read_frame_key-returns-in-Ok : goal.read_frame_key-returns-in-Ok
read_frame_key-returns-in-Ok t c = λ lists told.
    let table = c.args.terms.now.table.now in
    let value = json_data c.args.value.now in
    let place = place_data c.args.place.now in
    let old = c.args.rows.now.items in
    let new = c.sub_frame.new.rows.items in
    let d = reading_of (built old) c.args.read.now lists in
    subst (λ r. IsRead old new r (read_keyword (class_data c.args.class) (key_data c.args.key) table place value (sub_frame table value) (reverse_map table value) d)) (sym c.give_graph.ensures)
    (subst (λ x. IsRead old new (graph_given c.in-Ok.found c.args.read.now) x)
    (sym (graph_key_is c.args.class c.args.key table place value (sub_frame table value) (reverse_map table value) d (sym c.in-GraphFrame.ensures)))
    (graph_read old new table value (sub_frame table value) (reverse_map table value) c.in-Ok.found c.args.read.now lists told c.in-Ok.ensures))

pub read_frame_key-returns-in-ItemFrame : goal.read_frame_key-returns-in-ItemFrame
read_frame_key-returns-in-ItemFrame t c = λ lists told.
    let table = c.args.terms.now.table.now in
    let value = json_data c.args.value.now in
    let place = place_data c.args.place.now in
    let old = c.args.rows.now.items in
    let d = reading_of (built old) c.args.read.now lists in
    subst (λ x. Reads old c.read_item.new.rows.items c.read_item.new.read c.read_item.result x)
    (sym (item_key_is c.args.class c.args.key table place value (sub_frame table value) (reverse_map table value) d (sym c.in-ItemFrame.ensures)
    ∙ ap (λ term. read_list_key list_key term (sub_frame table value) d) (sym c.term.ensures)))
    (c.read_item.ensures lists told)

pub read_item-returns-in-Ok : goal.read_item-returns-in-Ok
read_item-returns-in-Ok t c = λ lists told.
    let sub = sub_frame c.args.terms.now.table.now (json_data c.args.value.now) in
    let old = c.args.rows.now.items in
    let new = c.sub_frame.new.rows.items in
    subst (λ r. IsRead old new r (read_list_key list_key (option_copied c.args.term) sub (reading_of (built old) c.args.read.now lists))) (sym c.give_item.ensures)
    (item_read old new (option_copied c.args.term) sub c.in-Ok.found c.args.read.now lists told c.in-Ok.ensures)
