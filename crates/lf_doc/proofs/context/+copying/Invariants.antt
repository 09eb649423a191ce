use Rattle.std.proofs.Common.{◌≡◌, ◌++◌, drop, map, take}
use Rattle.lf_model.specs.JsonBridge.{json_data}
use Rattle.def_documents.specs.PrintedContext.{without_version}
use Rattle.lf_doc.proofs.Tops.{seen}
use Rattle.lf_doc.proofs.Versions.{kept}
use Rattle.lf_doc.proofs.context.+copying.Given as goal

abbrev pub invariant-copy_items-loop-item : goal.invariant-copy_items-loop-item
invariant-copy_items-loop-item l =
    map json_data l.copied.items ≡ map (λ x. without_version (json_data x)) (take l.item-index l.item-items)

abbrev pub invariant-copy_members-loop-member : goal.invariant-copy_members-loop-member
invariant-copy_members-loop-member l =
    seen l.copied.items ++ kept (drop l.member-index l.member-items) ≡ kept l.member-items
