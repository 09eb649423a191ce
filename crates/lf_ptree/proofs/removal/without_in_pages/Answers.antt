use Rattle.std.proofs.Common.{◌++◌, take, drop, suc, sym, ap, subst, ◌∙◌}
use Rattle.std.specs.Arc.{arc_value}
use Rattle.std.proofs.lemmas.Result.{IfOk-weaker}
use Rattle.lf_ptree.specs.Pairs.{Ascends, without_key}
use Rattle.lf_ptree.specs.Pages.{groups, join, page_pairs}
use Rattle.lf_ptree.proofs.PagesLemmas.{page_group, group_ascends}
use Rattle.lf_ptree.proofs.RemovalLemmas.{ascends_without, without-joined}
use Rattle.lf_ptree.proofs.removal.without_in_pages.Goals as goal

pub without_pair-requires : goal.without_pair-requires
without_pair-requires g c =
    let p = c.index-pages-at.result in
    let same = page_group c.args.pages.now c.page_for-at.result p c.deref.result.now c.as_slice.result.now c.as_slice.ensures.value c.deref.ensures c.index-pages-at.is in
    subst (Ascends g.K.Ord.cmp) (sym same) (group_ascends g.K.Ord.cmp (groups c.args.pages.now) c.page_for-at.result (page_pairs (arc_value p)) c.page_for-at.ensures.in_range c.requires.ascends)

pub returns-clause-pairs : goal.returns-clause-pairs
returns-clause-pairs g c =
    let gs = groups c.args.pages.now in
    let n = c.page_for-at.result in
    let p = c.index-pages-at.result in
    let same = page_group c.args.pages.now n p c.deref.result.now c.as_slice.result.now c.as_slice.ensures.value c.deref.ensures c.index-pages-at.is in
    IfOk-weaker c.with_fewer_pairs.result _ _ (λ made e.
    e.joined
    ∙ ap (λ es. join (take n gs) ++ (es ++ join (drop (suc n) gs))) (c.in_ok-pairs.ensures ∙ ap (without_key g.K.Ord.cmp c.args.key.now) same)
    ∙ without-joined g.K.Ord.cmp c.args.key.now gs n (page_pairs (arc_value p)) c.page_for-at.ensures
    ) c.with_fewer_pairs.ensures

pub returns-clause-map : goal.returns-clause-map
returns-clause-map g c =
    let gs = groups c.args.pages.now in
    let n = c.page_for-at.result in
    let p = c.index-pages-at.result in
    let same = page_group c.args.pages.now n p c.deref.result.now c.as_slice.result.now c.as_slice.ensures.value c.deref.ensures c.index-pages-at.is in
    IfOk-weaker c.with_fewer_pairs.result _ _ (λ made e.
    let whole = e.joined
    ∙ ap (λ es. join (take n gs) ++ (es ++ join (drop (suc n) gs))) (c.in_ok-pairs.ensures ∙ ap (without_key g.K.Ord.cmp c.args.key.now) same)
    ∙ without-joined g.K.Ord.cmp c.args.key.now gs n (page_pairs (arc_value p)) c.page_for-at.ensures in
    record {
      no_empty = e.no_empty c.requires.no_empty;
      ascends = subst (Ascends g.K.Ord.cmp) (sym whole) (ascends_without g.K.Ord.cmp c.args.key.now (join gs) c.requires.ascends);
    }
    ) c.with_fewer_pairs.ensures
