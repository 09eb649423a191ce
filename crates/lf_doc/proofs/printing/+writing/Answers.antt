use Rattle.std.proofs.Common.{◌≡◌, ◌∷◌, [], ◌++◌, ◌+◌, OnOk, sym, ap, subst, ◌∙◌, drop}
use Rattle.lf_model.specs.JsonBridge.{json_data, items_data, members_data}
use Rattle.lf_model.specs.JsonData as j
use Rattle.lf_model.proofs.JsonLemmas.{json_data-Map}
use Rattle.def_documents.specs.JsonPrint.{item_texts, json_text, member_texts}
use Rattle.def_printed.specs.JsonText.{json_member}
use Rattle.lf_doc.specs.Sheets.{appended}
use Rattle.lf_doc.proofs.Written.{item-next, member-next, member-written, more_texts, one-more}
use Rattle.lf_doc.proofs.printing.+writing.Goals as goal

pub write-returns-in-Map : goal.write-returns-in-Map
write-returns-in-Map t c =
    let same : json_data c.args.json.now ≡ j.object (members_data c.in-Map.members) = ap json_data c.in-Map.is ∙ json_data-Map c.in-Map.members in
    subst (λ v. OnOk c.write_members.result (c.write_members.new.sheet ≡ appended c.args.sheet.now (json_text v))) (sym same) c.write_members.ensures

pub write_items-loop-item-preserved : goal.write_items-loop-item-preserved
write_items-loop-item-preserved t c =
    let xs = c.as_slice-item-items.result.now in
    let i = c.loop-item.item-index in
    let x = c.item-item.result in
    one-more c.loop-item.sheet c.separate.new.sheet c.write.new.sheet c.loop-item.after (json_text (json_data x)) (item_texts (items_data (drop (i + 1) xs))) (93 ∷ [])
    c.in_ok-separate.ensures c.in_ok-write.ensures
    ∙ ap (λ ts. appended c.loop-item.sheet (more_texts c.loop-item.after ts ++ 93 ∷ [])) (sym (item-next xs i x c.loop-item-test.true c.item-item.is))
    ∙ c.loop-item.invariant

pub write_members-loop-member-preserved : goal.write_members-loop-member-preserved
write_members-loop-member-preserved t c =
    let es = c.as_slice-member-items.result.now in
    let i = c.loop-member.member-index in
    let e = c.member-item.result in
    one-more c.loop-member.sheet c.separate.new.sheet c.write.new.sheet c.loop-member.after (json_member e.key (json_text (json_data e.value))) (member_texts (members_data (drop (i + 1) es))) (125 ∷ [])
    c.in_ok-separate.ensures
    (member-written c.separate.new.sheet c.write_key.new.sheet c.write.new.sheet e.key (json_text (json_data e.value)) c.in_ok-write_key.ensures c.in_ok-write.ensures)
    ∙ ap (λ ts. appended c.loop-member.sheet (more_texts c.loop-member.after ts ++ 125 ∷ [])) (sym (member-next es i e c.loop-member-test.true c.member-item.is))
    ∙ c.loop-member.invariant
