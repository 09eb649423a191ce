use Rattle.std.proofs.Common.{◌≡◌, [], ◌∷◌, ◌++◌, drop}
use Rattle.std.specs.List.{join_with_byte}
use Rattle.lf_model.specs.JsonBridge.{items_data, members_data}
use Rattle.def_documents.specs.JsonPrint.{item_texts, member_texts}
use Rattle.lf_doc.specs.Sheets.{appended}
use Rattle.lf_doc.proofs.Written.{more_texts}
use Rattle.lf_doc.proofs.printing.+writing.Given as goal

abbrev pub invariant-write_items-loop-item : goal.invariant-write_items-loop-item
invariant-write_items-loop-item l =
    appended l.sheet (more_texts l.after (item_texts (items_data (drop l.item-index l.item-items))) ++ 93 ∷ [])
    ≡ appended l.initial.sheet (join_with_byte 44 (item_texts (items_data l.item-items)) ++ 93 ∷ [])

abbrev pub invariant-write_members-loop-member : goal.invariant-write_members-loop-member
invariant-write_members-loop-member l =
    appended l.sheet (more_texts l.after (member_texts (members_data (drop l.member-index l.member-items))) ++ 125 ∷ [])
    ≡ appended l.initial.sheet (join_with_byte 44 (member_texts (members_data l.member-items)) ++ 125 ∷ [])
