use Rattle.std.proofs.Common.{◌≡◌, ◌∷◌, [], ◌++◌, sym, ap, subst, ◌∙◌, arith}
use Rattle.json.specs.Token as t
use Rattle.lf_model.specs.JsonBridge.{json_data, items_data, members_data}
use Rattle.lf_model.specs.JsonData as j
use Rattle.lf_model.proofs.JsonLemmas.{json_data-Map}
use Rattle.lf_json.specs.Tokens.{Appends, value_tokens, item_tokens, member_tokens, has_fraction}
use Rattle.lf_json.proofs.Going.{going_on, item_next, item_whole, member_next, member_whole, two_steps}
use Rattle.lf_json.proofs.KeyOrder.{item_in_order, member_in_order, keys_in_order, all_members_in_order}
use Rattle.lf_sorted.specs.Entries.{Ascends}
use Rattle.lf_json.specs.ReadBack.{InKeyOrder}
use Rattle.lf_json.proofs.write.+writing.Goals as goal

pub write-returns-in_ok-write_members-in-Map-clause-tokens : goal.write-returns-in_ok-write_members-in-Map-clause-tokens
write-returns-in_ok-write_members-in-Map-clause-tokens n c = λ w.
    let same : json_data c.args.json.now ≡ j.object (members_data c.in-Map.members) = ap json_data c.in-Map.is ∙ json_data-Map c.in-Map.members in
    subst (λ v. Appends c.args.out.now c.write_members.new.out (value_tokens v)) (sym same) (c.in_ok-write_members-in-Map.ensures.tokens (ap has_fraction (sym same) ∙ w))

pub write-returns-in_ok-write_members-in-Map-clause-order : goal.write-returns-in_ok-write_members-in-Map-clause-order
write-returns-in_ok-write_members-in-Map-clause-order n c =
    let same : json_data c.args.json.now ≡ j.object (members_data c.in-Map.members) = ap json_data c.in-Map.is ∙ json_data-Map c.in-Map.members in
    subst InKeyOrder (sym same) c.in_ok-write_members-in-Map.ensures.order

pub write_items-loop-item-preserved : goal.write_items-loop-item-preserved
write_items-loop-item-preserved n c =
    let xs = c.as_slice-item-items.result.now in
    let i = c.loop-item.item-index in
    let x = c.item-item.result in (
      λ all.
          going_on c.begin_array.new.self c.loop-item.out c.write.new.out _ (value_tokens (json_data x)) _ (item_tokens (items_data xs)) (c.loop-item.invariant.0 all)
          (c.in_ok-write.ensures.tokens (item_whole xs i x c.loop-item-test.true c.item-item.is all))
          (item_next xs i x c.loop-item-test.true c.item-item.is),
      item_in_order xs i x c.loop-item-test.true c.item-item.is c.loop-item.invariant.1 c.in_ok-write.ensures.order,
    )

pub write_members-loop-member-preserved : goal.write_members-loop-member-preserved
write_members-loop-member-preserved n c =
    let es = c.as_slice-member-items.result.now in
    let i = c.loop-member.member-index in
    let e = c.member-item.result in
    let named : Appends c.loop-member.out c.key.new.self (t.key e.key ∷ []) = record { before = c.in_ok-key.ensures.room.0; tokens = c.in_ok-key.ensures.ok ∙ ap (λ k. c.loop-member.out.tokens ++ t.key k ∷ []) c.as_str.ensures } in (
      λ all.
          going_on c.begin_object.new.self c.loop-member.out c.write.new.out _ (t.key e.key ∷ value_tokens (json_data e.value)) _ (member_tokens (members_data es)) (c.loop-member.invariant.0 all)
          (two_steps c.loop-member.out c.key.new.self c.write.new.out (t.key e.key ∷ []) (value_tokens (json_data e.value)) named (c.in_ok-write.ensures.tokens (member_whole es i e c.loop-member-test.true c.member-item.is all)))
          (member_next es i e c.loop-member-test.true c.member-item.is),
      member_in_order es i e c.loop-member-test.true c.member-item.is c.loop-member.invariant.1 c.in_ok-write.ensures.order,
    )

pub write_members-returns-clause-order : goal.write_members-returns-clause-order
write_members-returns-clause-order n c =
    let es = c.as_slice-member-items.result.now in
    let same : es ≡ c.args.members.now = c.as_slice-member-items.ensures.entries in
    subst (λ entries. InKeyOrder (j.object (members_data entries))) same
    (keys_in_order es (subst Ascends (sym same) c.as_slice-member-items.ensures.order), all_members_in_order es c.loop-member.member-index (omega arith) c.loop-member.invariant.1)
