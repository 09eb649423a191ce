use Rattle.std.proofs.Common.{◌≡◌, ◌+◌, ◌++◌, suc, drop, get_or, sym, ap, subst, ◌∙◌, arith}
use Rattle.std.specs.Arc.{arc_value}
use Rattle.lf_ptree.specs.Pairs.{Ascends, pairs_from}
use Rattle.lf_ptree.specs.Pages.{flat, groups, join, page_pairs}
use Rattle.lf_ptree.proofs.PagesLemmas.{page_group, group_ascends}
use Rattle.lf_ptree.proofs.RangeLemmas.{groups-drop, from-joined}
use Rattle.lf_ptree.proofs.range.pages_from.Goals as goal

pub here_from-here-requires : goal.here_from-here-requires
here_from-here-requires g c =
    let p = c.index-pages-at.result in
    let same = page_group c.args.pages.now c.page_for-at.result p c.deref.result.now c.as_slice.result.now c.as_slice.ensures.value c.deref.ensures c.index-pages-at.is in
    subst (Ascends g.K.Ord.cmp) (sym same) (group_ascends g.K.Ord.cmp (groups c.args.pages.now) c.page_for-at.result (page_pairs (arc_value p)) c.page_for-at.ensures.in_range c.requires.ascends)

pub returns : goal.returns
returns g c =
    let gs = groups c.args.pages.now in
    let n = c.page_for-at.result in
    let p = c.index-pages-at.result in
    let low = c.args.low.now in
    let same = page_group c.args.pages.now n p c.deref.result.now c.as_slice.result.now c.as_slice.ensures.value c.deref.ensures c.index-pages-at.is in
    let next : n + 1 ≡ suc n = omega arith in
    let behind : flat c.split_at.result.1.now ≡ join (drop (suc n) gs) = ap flat c.split_at.ensures.back ∙ ap join (groups-drop (n + 1) c.args.pages.now) ∙ ap (λ k. join (drop k gs)) next in
    ap (λ l. l ++ flat c.split_at.result.1.now) (c.here_from-here.ensures ∙ ap (pairs_from g.K.Ord.cmp low) same)
    ∙ ap (λ l. pairs_from g.K.Ord.cmp low (get_or gs n (page_pairs (arc_value p))) ++ l) behind
    ∙ from-joined g.K.Ord.cmp low gs n (page_pairs (arc_value p)) c.page_for-at.ensures
