use Rattle.std.proofs.Common.{◌∙◌, ◌++◌, ◌+◌, ap, drop, map, subst, sym}
use Rattle.std.proofs.lemmas.List.{take_all}
use Rattle.lf_sorted.specs.Entries.{Ascends}
use Rattle.lf_model.specs.JsonBridge.{items_data, json_data, members_data}
use Rattle.lf_model.specs.JsonData.{items_of, object}
use Rattle.lf_model.proofs.JsonLemmas.{json_data-Map}
use Rattle.def_documents.specs.PrintedContext.{items_without_version, members_without_version, without_version}
use Rattle.lf_doc.proofs.Tops.{seen}
use Rattle.lf_doc.proofs.Versions.{all-copied, copied-more, items-without, kept, kept-ascend, members-without}
use Rattle.lf_doc.proofs.context.+copying.Goals as goal

pub copy_items-returns : goal.copy_items-returns
copy_items-returns t c =
    let xs = c.as_slice-item-items.result.now in
    ap items_data c.from_vec.ensures
    ∙ ap items_of (c.loop-item.invariant ∙ ap (λ ys. map (λ x. without_version (json_data x)) ys) (take_all c.loop-item.item-index xs c.loop-item-test.false))
    ∙ items-without xs
    ∙ ap (λ ys. items_without_version (items_data ys)) c.as_slice-item-items.ensures

pub copy_members-loop-member-preserved : goal.copy_members-loop-member-preserved
copy_members-loop-member-preserved t c =
    let es = c.as_slice-member-items.result.now in
    let i = c.loop-member.member-index in
    let e = c.member-item.result in
    ap (λ l. seen l ++ kept (drop (i + 1) es)) c.in_ok-push.ensures.items
    ∙ copied-more es c.loop-member.copied.items i e _ c.loop-member-test.true c.member-item.is (sym c.is_version.ensures ∙ c.if-is_version.false)
    c.in_ok-copy.ensures c.in_ok-copy_value.ensures c.loop-member.invariant

pub copy_members-from_vec-requires : goal.copy_members-from_vec-requires
copy_members-from_vec-requires t c =
    let es = c.as_slice-member-items.result.now in
    kept-ascend es c.loop-member.copied.items (subst Ascends (sym c.as_slice-member-items.ensures.entries) c.as_slice-member-items.ensures.order)
    (all-copied es c.loop-member.copied.items c.loop-member.member-index c.loop-member-test.false c.loop-member.invariant)

pub copy_members-returns : goal.copy_members-returns
copy_members-returns t c =
    let es = c.as_slice-member-items.result.now in
    ap members_data c.from_vec.ensures
    ∙ members-without es c.loop-member.copied.items (all-copied es c.loop-member.copied.items c.loop-member.member-index c.loop-member-test.false c.loop-member.invariant)
    ∙ ap (λ ys. members_without_version (members_data ys)) c.as_slice-member-items.ensures.entries

pub copy_value-returns-in_ok-copy_members-in-Map : goal.copy_value-returns-in_ok-copy_members-in-Map
copy_value-returns-in_ok-copy_members-in-Map t c =
    json_data-Map c.in_ok-copy_members-in-Map.field-0
    ∙ ap object c.in_ok-copy_members-in-Map.ensures
    ∙ ap without_version (sym (ap json_data c.in-Map.is ∙ json_data-Map c.in-Map.members))
