use Rattle.std.proofs.Common.{◌≡◌, List, map, length, refl, sym, ap, subst, ◌∙◌, rules, flat_map}
use Rattle.std.specs.Arc.{arc_value}
use Rattle.std.specs.List.{list_any}
use Rattle.std.specs.List.Sorted.{IsStrictlySortedBy}
use Rattle.lf_rdf.specs.declared.quad.Quad.{Quad}
use Rattle.lf_rdf.specs.Equality.{quad_eq}
use Rattle.def_datasets.specs.Dataset.{additions, holds}
use Rattle.def_datasets.specs.Terms.{label_terms}
use Rattle.def_datasets.proofs.OrderLaws.{quad_strict}
use Rattle.lf_order.proofs.SetLemmas.{set_alike}
use Rattle.lf_ptree.specs.Pairs.{keys}
use Rattle.lf_index.specs.Orders.{subject_order}
use Rattle.lf_index.proofs.OrderLemmas.{term_strictly, subject_strictly, object_strictly, graph_strictly}
use Rattle.lf_index.proofs.ApplyLemmas.{by_members, by_members_of, indexed_sorted}
use Rattle.lf_index.proofs.bulk.index_of_added.Goals as goal

pub invariant_of-result : goal.invariant_of-result
invariant_of-result c =
    let adds = additions c.args.lines.now in
    let subjects : List Quad = c.in_ok-subjects.subjects.items in
    let one = c.in_ok-keys_by_subject.ensures ∙ c.in_ok-rows.ensures in
    let in_subjects : (z : Quad) → holds subjects z ≡ holds adds z = by_members subject_strictly subjects subjects _ _ refl c.in_ok-subjects.ensures.members one in
    let two = c.in_ok-keys_by_object.ensures ∙ c.as_slice-2.ensures.value in
    let three = c.in_ok-keys_by_graph.ensures ∙ c.as_slice-3.ensures.value in
    let four = c.in_ok-labels.ensures ∙ ap (flat_map (λ q. label_terms q.graph)) (ap (map arc_value) c.as_slice.ensures.value ∙ c.in_ok-rows.ensures) in
    let counted : c.len-count.result ≡ length subjects = search rules in
    indexed_sorted adds c.in_ok-set_of_keys.field-0 c.in_ok-set_of_keys-2.field-0 c.in_ok-set_of_keys-3.field-0 c.in_ok-set_of_keys-4.field-0 c.len-count.result
    (subst (IsStrictlySortedBy subject_order) (sym c.in_ok-set_of_keys.ensures) c.in_ok-subjects.ensures.ascends)
    (by_members subject_strictly _ _ _ _ c.in_ok-set_of_keys.ensures c.in_ok-subjects.ensures.members one)
    (by_members_of object_strictly _ _ _ _ c.in_ok-set_of_keys-2.ensures c.in_ok-objects.ensures.members
    (λ z. c.in_ok-by_numbers.ensures (quad_eq z) ∙ (ap (list_any (quad_eq z)) two ∙ in_subjects z)))
    (by_members_of graph_strictly _ _ _ _ c.in_ok-set_of_keys-3.ensures c.in_ok-graphs.ensures.members (λ z. ap (list_any (quad_eq z)) three ∙ in_subjects z))
    (by_members term_strictly _ _ _ _ c.in_ok-set_of_keys-4.ensures c.in_ok-names.ensures.members four)
    (counted ∙ sym (ap length c.in_ok-set_of_keys.ensures))

pub returns : goal.returns
returns c =
    let adds = additions c.args.lines.now in
    let one = c.in_ok-keys_by_subject.ensures ∙ c.in_ok-rows.ensures in
    set_alike quad_strict (keys c.in_ok-set_of_keys.field-0) adds (by_members subject_strictly _ _ _ _ c.in_ok-set_of_keys.ensures c.in_ok-subjects.ensures.members one)
