use Rattle.std.proofs.Common.{sym, ap, subst, ◌∙◌}
use Rattle.std.specs.Arc.{arc_value}
use Rattle.lf_ptree.specs.Pairs.{Ascends, value_at}
use Rattle.lf_ptree.specs.Pages.{groups, page_pairs}
use Rattle.lf_ptree.proofs.PagesLemmas.{page_group, group_ascends, value-joined}
use Rattle.lf_ptree.proofs.pages.value_among.Goals as goal

pub value_in-requires : goal.value_in-requires
value_in-requires g c =
    let p = c.index-pages-at.result in
    let same = page_group c.args.pages.now c.page_for-at.result p c.deref.result.now c.as_slice.result.now c.as_slice.ensures.value c.deref.ensures c.index-pages-at.is in
    subst (Ascends g.K.Ord.cmp) (sym same) (group_ascends g.K.Ord.cmp (groups c.args.pages.now) c.page_for-at.result (page_pairs (arc_value p)) c.page_for-at.ensures.in_range c.requires.ascends)

pub returns : goal.returns
returns g c =
    let p = c.index-pages-at.result in
    let same = page_group c.args.pages.now c.page_for-at.result p c.deref.result.now c.as_slice.result.now c.as_slice.ensures.value c.deref.ensures c.index-pages-at.is in
    c.value_in.ensures
    ∙ ap (value_at g.K.Ord.cmp c.args.key.now) same
    ∙ sym (value-joined g.K.Ord.cmp g.met.K.Ord.total c.args.key.now (groups c.args.pages.now) c.page_for-at.result (page_pairs (arc_value p)) c.requires.ascends c.page_for-at.ensures)
