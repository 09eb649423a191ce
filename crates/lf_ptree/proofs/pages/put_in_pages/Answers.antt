use Rattle.std.proofs.Common.{◌++◌, take, drop, suc, sym, ap, subst, ◌∙◌}
use Rattle.std.specs.Arc.{arc_value}
use Rattle.std.proofs.lemmas.Result.{IfOk-weaker}
use Rattle.lf_ptree.specs.Pairs.{pairs_of, Ascends, put_pair}
use Rattle.lf_ptree.specs.Pages.{groups, join, page_pairs, HasPair, IsGrouped}
use Rattle.lf_ptree.proofs.PairsLemmas.{ascends_put}
use Rattle.lf_ptree.proofs.PagesLemmas.{page_group, group_ascends, one_group, has_pair-put, put-joined}
use Rattle.lf_ptree.proofs.pages.put_in_pages.Goals as goal

pub returns-then-is_empty-clause-map : goal.returns-then-is_empty-clause-map
returns-then-is_empty-clause-map g c =
    IfOk-weaker c.first_page.result _ _ (λ made e. subst (IsGrouped g.K.Ord.cmp) (sym e) (one_group g.K.Ord.cmp (c.args.key, c.args.value))) c.first_page.ensures

pub with_pair-requires : goal.with_pair-requires
with_pair-requires g c =
    let p = c.index-pages-at.result in
    let same = page_group c.args.pages.now c.page_for-at.result p c.deref.result.now c.as_slice.result.now c.as_slice.ensures.value c.deref.ensures c.index-pages-at.is in
    subst (Ascends g.K.Ord.cmp) (sym same) (group_ascends g.K.Ord.cmp (groups c.args.pages.now) c.page_for-at.result (page_pairs (arc_value p)) c.page_for-at.ensures.in_range c.requires.ascends)

pub with_page-requires-clause-some : goal.with_page-requires-clause-some
with_page-requires-clause-some g c =
    subst HasPair (sym c.in_ok-pairs.ensures) (has_pair-put g.K.Ord.cmp c.args.key c.args.value (pairs_of c.as_slice.result.now))

pub returns-clause-pairs : goal.returns-clause-pairs
returns-clause-pairs g c =
    let gs = groups c.args.pages.now in
    let n = c.page_for-at.result in
    let p = c.index-pages-at.result in
    let same = page_group c.args.pages.now n p c.deref.result.now c.as_slice.result.now c.as_slice.ensures.value c.deref.ensures c.index-pages-at.is in
    IfOk-weaker c.with_page.result _ _ (λ made e.
    e.joined
    ∙ ap (λ es. join (take n gs) ++ (es ++ join (drop (suc n) gs))) (c.in_ok-pairs.ensures ∙ ap (put_pair g.K.Ord.cmp c.args.key c.args.value) same)
    ∙ put-joined g.K.Ord.cmp c.args.key c.args.value gs n (page_pairs (arc_value p)) c.page_for-at.ensures
    ) c.with_page.ensures

pub returns-clause-map : goal.returns-clause-map
returns-clause-map g c =
    let gs = groups c.args.pages.now in
    let n = c.page_for-at.result in
    let p = c.index-pages-at.result in
    let same = page_group c.args.pages.now n p c.deref.result.now c.as_slice.result.now c.as_slice.ensures.value c.deref.ensures c.index-pages-at.is in
    IfOk-weaker c.with_page.result _ _ (λ made e.
    let whole = e.joined
    ∙ ap (λ es. join (take n gs) ++ (es ++ join (drop (suc n) gs))) (c.in_ok-pairs.ensures ∙ ap (put_pair g.K.Ord.cmp c.args.key c.args.value) same)
    ∙ put-joined g.K.Ord.cmp c.args.key c.args.value gs n (page_pairs (arc_value p)) c.page_for-at.ensures in
    record {
      no_empty = e.no_empty c.requires.no_empty;
      ascends = subst (Ascends g.K.Ord.cmp) (sym whole) (ascends_put g.K.Ord.cmp g.met.K.Ord.total c.args.key c.args.value (join gs) c.requires.ascends);
    }
    ) c.with_page.ensures
