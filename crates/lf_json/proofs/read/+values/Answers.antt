use Rattle.std.proofs.Common.{◌≡◌, [], ◌∷◌, ◌++◌, take, map, sym, ap, ◌∙◌, subst, append_assoc, string_bytes}
use Rattle.std.proofs.lemmas.List.{take_all, append-nil}
use Rattle.std.specs.List.Sorted.{IsStrictlySortedBy}
use Rattle.std.specs.Map.{keys_of}
use Rattle.std.specs.String.{string_cmp}
use Rattle.serde_json.proofs.Views.{view-Object}
use Rattle.lf_model.specs.JsonBridge.{json_data, items_data}
use Rattle.lf_model.specs.JsonData as j
use Rattle.lf_model.proofs.JsonLemmas.{json_data-Map}
use Rattle.lf_json.specs.Reading.{json_of}
use Rattle.lf_json.proofs.Walks.{Member, value_seen, items_json-view, entries_ascend, entries_same, seen_more}
use Rattle.lf_json.proofs.read.+values.Goals as goal

pub json_from-returns-in_ok-map_from-in-Object : goal.json_from-returns-in_ok-map_from-in-Object
json_from-returns-in_ok-map_from-in-Object t c =
    json_data-Map c.in_ok-map_from-in-Object.field-0
    ∙ c.in_ok-map_from-in-Object.ensures
    ∙ ap json_of (sym (view-Object c.in-Object.members))
    ∙ ap (λ v. value_seen v) (sym c.in-Object.is)

pub list_from-returns : goal.list_from-returns
list_from-returns t c =
    let all : take c.loop-item.item-index c.deref-item-items.result.now ≡ c.args.items.now.items =
    take_all c.loop-item.item-index c.deref-item-items.result.now c.loop-item-test.false ∙ c.deref-item-items.ensures.value in
    ap (λ l. j.array (items_data l)) c.from_vec.ensures
    ∙ ap (λ l. j.array (j.items_of l)) (c.loop-item.invariant ∙ ap (map value_seen) all)
    ∙ ap j.array (sym (items_json-view c.args.items.now.items))

pub map_from-loop-key-preserved : goal.map_from-loop-key-preserved
map_from-loop-key-preserved t c =
    let l = c.loop-key in
    let done = l.invariant.0 in
    let m : Member = (c.in-Some.key.now, c.in-Some.member.now) in
    let named : c.in_ok-of.field-0 ≡ string_bytes m.0 = c.in_ok-of.ensures ∙ c.as_str.ensures.value in
    let valued : json_data c.in_ok-json_from.field-0 ≡ value_seen m.1 = c.in_ok-json_from.ensures in (
      done ++ m ∷ [],
      l.invariant.1 ∙ ap (λ es. done ++ es) c.in-Some.ensures.steps ∙ sym (append_assoc done (m ∷ []) c.next.new.self),
      rw c.in_ok-push.ensures.items (seen_more l.found.items done _ m l.invariant.2 (λ i. (named i, valued i))),
    )

pub map_from-from_vec-requires : goal.map_from-from_vec-requires
map_from-from_vec-requires t c =
    let l = c.loop-key in
    let all : c.args.members.now.entries ≡ l.invariant.0 = l.invariant.1 ∙ ap (λ es. l.invariant.0 ++ es) c.in-None.ensures.steps.0 ∙ append-nil l.invariant.0 in
    entries_ascend l.found.items l.invariant.0 l.invariant.2 (subst (λ es. IsStrictlySortedBy string_cmp (keys_of es)) all c.iter-key-items.ensures.ordered)

pub map_from-returns : goal.map_from-returns
map_from-returns t c =
    let l = c.loop-key in
    let all : c.args.members.now.entries ≡ l.invariant.0 = l.invariant.1 ∙ ap (λ es. l.invariant.0 ++ es) c.in-None.ensures.steps.0 ∙ append-nil l.invariant.0 in
    rw (c.from_vec.ensures, all) (ap j.object (entries_same l.found.items l.invariant.0 l.invariant.2))
