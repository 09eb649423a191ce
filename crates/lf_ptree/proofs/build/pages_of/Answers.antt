use Rattle.std.proofs.Common.{◌≡◌, [], ◌∷◌, ◌++◌, sym, ap, subst, ◌∙◌, arith, rules}
use Rattle.std.specs.Arc.{arc_value}
use Rattle.std.specs.List.{AllByRecursion}
use Rattle.std.proofs.lemmas.List.{map-append, nil_from_length}
use Rattle.std.proofs.lemmas.Result.{IfOk-weaker}
use Rattle.lf_ptree.specs.Pairs.{pairs_of, Ascends}
use Rattle.lf_ptree.specs.Pages.{groups, join, HasPair}
use Rattle.lf_ptree.proofs.PagesLemmas.{building_more, building_closed, built_whole, built_no_empty, has_pair-handles}
use Rattle.lf_ptree.proofs.build.pages_of.Goals as goal

pub loop-pair-preserved-in_ok-close_page : goal.loop-pair-preserved-in_ok-close_page
loop-pair-preserved-in_ok-close_page g c =
    let pushed : pairs_of c.push.new.self.items ≡ pairs_of c.loop-pair.page.items ++ c.in-Some.pair ∷ [] =
    ap pairs_of c.in_ok-push.ensures.items ∙ map-append arc_value c.loop-pair.page.items (c.in_ok-new.field-0 ∷ []) ∙ ap (λ x. pairs_of c.loop-pair.page.items ++ x ∷ []) c.in_ok-new.ensures.ok in
    let full : c.replace-full.result.items ≡ c.push.new.self.items = ap (λ v. v.items) c.replace-full.ensures.value in
    building_closed (groups c.loop-pair.pages.items) _ (pairs_of c.push.new.self.items) _ _ _
    (building_more (groups c.loop-pair.pages.items) (pairs_of c.loop-pair.page.items) _ _ _ _ c.in-Some.pair c.loop-pair.invariant (search rules) pushed)
    (has_pair-handles c.push.new.self.items (omega (arith, c.len.ensures, c.if-len-ge-FILL.true)))
    (c.in_ok-close_page.ensures ∙ ap (λ xs. groups c.loop-pair.pages.items ++ pairs_of xs ∷ []) full)
    (search rules)

pub loop-pair-preserved : goal.loop-pair-preserved
loop-pair-preserved g c =
    let pushed : pairs_of c.push.new.self.items ≡ pairs_of c.loop-pair.page.items ++ c.in-Some.pair ∷ [] =
    ap pairs_of c.in_ok-push.ensures.items ∙ map-append arc_value c.loop-pair.page.items (c.in_ok-new.field-0 ∷ []) ∙ ap (λ x. pairs_of c.loop-pair.page.items ++ x ∷ []) c.in_ok-new.ensures.ok in
    building_more (groups c.loop-pair.pages.items) (pairs_of c.loop-pair.page.items) _ _ _ _ c.in-Some.pair c.loop-pair.invariant (search rules) pushed

pub returns-clause-pairs : goal.returns-clause-pairs
returns-clause-pairs g c =
    let l = c.loop-pair in
    let none : l.pair-iterator.rest.items ≡ [] = nil_from_length l.pair-iterator.rest.items (omega (arith, c.in-None.ensures.steps.0, l.pair-iterator.rest.ok)) in
    IfOk-weaker c.with_last.result _ _ (λ made e. ap join e ∙ built_whole (groups l.pages.items) (pairs_of l.page.items) _ _ l.invariant none) c.with_last.ensures

pub returns-clause-map : goal.returns-clause-map
returns-clause-map g c =
    let l = c.loop-pair in
    let none : l.pair-iterator.rest.items ≡ [] = nil_from_length l.pair-iterator.rest.items (omega (arith, c.in-None.ensures.steps.0, l.pair-iterator.rest.ok)) in
    IfOk-weaker c.with_last.result _ _ (λ made e. record {
      no_empty = subst (AllByRecursion HasPair) (sym e) (built_no_empty (groups l.pages.items) (pairs_of l.page.items) _ _ l.invariant);
      ascends = subst (Ascends g.K.Ord.cmp) (sym (ap join e ∙ built_whole (groups l.pages.items) (pairs_of l.page.items) _ _ l.invariant none)) c.requires;
    }) c.with_last.ensures
