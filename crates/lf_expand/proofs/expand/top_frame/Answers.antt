use Rattle.std.proofs.Common.{[], length, subst}
use Rattle.lf_model.specs.JsonBridge.{members_data}
use Rattle.def_contexts.specs.FrameKeys.{node_map}
use Rattle.def_contexts.specs.Places.{of_top}
use Rattle.def_contexts.specs.SubFrames.{read_members}
use Rattle.lf_expand.specs.Gives.{Fails}
use Rattle.lf_expand.specs.RowData.{built}
use Rattle.lf_expand.specs.ReadingData.{Told, IsRead, reading_of, unread}
use Rattle.lf_expand.specs.TopFrames.{shown}
use Rattle.lf_expand.proofs.Steps.{no_lists, told_unread}
use Rattle.lf_expand.proofs.Naming.{top_put, top_found, top_numbers, top_fails}
use Rattle.lf_expand.proofs.expand.top_frame.Goals as goal

pub returns-in_ok-numbered-in-Ok-clause-frame : goal.returns-in_ok-numbered-in-Ok-clause-frame
returns-in_ok-numbered-in-Ok-clause-frame c =
    let table = c.args.terms.now.table.now in
    let given = shown c.args.inner.now.has_context (members_data c.args.inner.now.members.now) in
    let old = c.new-rows.result.items in
    let mid = c.read_top.new.rows.items in
    let r = c.read_top.new.read in
    let begun : IsRead old mid r (read_members table given node_map of_top (reading_of (built old) unread no_lists)) =
    subst (λ before. Told (length old) before no_lists → IsRead old mid r (read_members table given node_map of_top (reading_of (built old) before no_lists)))
    c.unread-read.ensures (c.in-Ok.ensures no_lists) (told_unread (length old)) in
    let read : IsRead [] mid r (read_members table given node_map of_top (reading_of (built []) unread no_lists)) =
    subst (λ rows. IsRead rows mid r (read_members table given node_map of_top (reading_of (built rows) unread no_lists))) c.new-rows.ensures.items begun in
    top_found table given c.push_row.new.rows.items c.in_ok-last-in-Ok.last c.in_ok-numbered-in-Ok.field-0
    (top_put mid c.push_row.new.rows.items r c.into_row.result c.in_ok-last-in-Ok.last _ read c.into_row.ensures c.in_ok-last-in-Ok.ensures.number c.in_ok-last-in-Ok.ensures.pushed)
    c.in_ok-numbered-in-Ok.ensures

pub returns-in_ok-numbered-in-Ok-clause-numbers : goal.returns-in_ok-numbered-in-Ok-clause-numbers
returns-in_ok-numbered-in-Ok-clause-numbers c =
    let table = c.args.terms.now.table.now in
    let given = shown c.args.inner.now.has_context (members_data c.args.inner.now.members.now) in
    let old = c.new-rows.result.items in
    let mid = c.read_top.new.rows.items in
    let r = c.read_top.new.read in
    let begun : IsRead old mid r (read_members table given node_map of_top (reading_of (built old) unread no_lists)) =
    subst (λ before. Told (length old) before no_lists → IsRead old mid r (read_members table given node_map of_top (reading_of (built old) before no_lists)))
    c.unread-read.ensures (c.in-Ok.ensures no_lists) (told_unread (length old)) in
    let read : IsRead [] mid r (read_members table given node_map of_top (reading_of (built []) unread no_lists)) =
    subst (λ rows. IsRead rows mid r (read_members table given node_map of_top (reading_of (built rows) unread no_lists))) c.new-rows.ensures.items begun in
    top_numbers c.push_row.new.rows.items c.in_ok-last-in-Ok.last c.in_ok-numbered-in-Ok.field-0 _
    (top_put mid c.push_row.new.rows.items r c.into_row.result c.in_ok-last-in-Ok.last _ read c.into_row.ensures c.in_ok-last-in-Ok.ensures.number c.in_ok-last-in-Ok.ensures.pushed)
    c.in_ok-numbered-in-Ok.ensures

pub returns-in-Err-clause-frame : goal.returns-in-Err-clause-frame
returns-in-Err-clause-frame c =
    let table = c.args.terms.now.table.now in
    let given = shown c.args.inner.now.has_context (members_data c.args.inner.now.members.now) in
    let old = c.new-rows.result.items in
    let begun : Fails c.in-Err.error (read_members table given node_map of_top (reading_of (built old) unread no_lists)) =
    subst (λ before. Told (length old) before no_lists → Fails c.in-Err.error (read_members table given node_map of_top (reading_of (built old) before no_lists)))
    c.unread-read.ensures (c.in-Err.ensures no_lists) (told_unread (length old)) in
    top_fails table given c.in-Err.error begun
