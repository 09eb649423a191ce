use Rattle.std.proofs.Common.{◌<◌, ◌++◌, length, take, drop, suc, sym, ap, subst, ◌∙◌}
use Rattle.std.specs.Arc.{arc_value}
use Rattle.std.proofs.lemmas.Result.{IfOk-weaker}
use Rattle.std.proofs.Math.ListN.{length-map}
use Rattle.lf_ptree.specs.Pairs.{Ascends, without_key}
use Rattle.lf_ptree.specs.Pages.{join}
use Rattle.lf_ptree.specs.Roots.{mid_groups, mid_pairs}
use Rattle.lf_ptree.proofs.PagesLemmas.{group_ascends}
use Rattle.lf_ptree.proofs.RootsLemmas.{mid_group, full_at, both_ok}
use Rattle.lf_ptree.proofs.RemovalLemmas.{ascends_without, without-joined}
use Rattle.lf_ptree.proofs.removal.without_below.Goals as goal

pub without_in_pages-requires : goal.without_in_pages-requires
without_in_pages-requires g c =
    let ms = c.args.middles.now in
    let n = c.middle_for-at.result in
    let p = c.index-middles-at.result in
    let same = mid_group ms n p c.deref.result.now c.as_slice.result.now c.as_slice.ensures.value c.deref.ensures c.index-middles-at.is in
    let within : n < length ms = rw (length-map, length-map) at c.middle_for-at.ensures.in_range in
    record {
      no_empty = full_at ms n p c.deref.result.now c.as_slice.result.now c.requires.full within c.as_slice.ensures.value c.deref.ensures c.index-middles-at.is;
      ascends = subst (Ascends g.K.Ord.cmp) (sym same) (group_ascends g.K.Ord.cmp (mid_groups ms) n (mid_pairs (arc_value p)) c.middle_for-at.ensures.in_range c.requires.grouped.ascends);
    }

pub returns-clause-pairs : goal.returns-clause-pairs
returns-clause-pairs g c =
    let ms = c.args.middles.now in
    let gs = mid_groups ms in
    let n = c.middle_for-at.result in
    let p = c.index-middles-at.result in
    let same = mid_group ms n p c.deref.result.now c.as_slice.result.now c.as_slice.ensures.value c.deref.ensures c.index-middles-at.is in
    IfOk-weaker c.with_fewer_pages.result _ _ (λ made e.
    e.joined
    ∙ ap (λ es. join (take n gs) ++ (es ++ join (drop (suc n) gs))) (c.in_ok-pages.ensures.pairs ∙ ap (without_key g.K.Ord.cmp c.args.key.now) same)
    ∙ without-joined g.K.Ord.cmp c.args.key.now gs n (mid_pairs (arc_value p)) c.middle_for-at.ensures
    ) c.with_fewer_pages.ensures.rebuilt

pub returns-clause-map : goal.returns-clause-map
returns-clause-map g c =
    let ms = c.args.middles.now in
    let gs = mid_groups ms in
    let n = c.middle_for-at.result in
    let p = c.index-middles-at.result in
    let same = mid_group ms n p c.deref.result.now c.as_slice.result.now c.as_slice.ensures.value c.deref.ensures c.index-middles-at.is in
    IfOk-weaker c.with_fewer_pages.result _ _ (λ made e.
    let whole = e.0.joined
    ∙ ap (λ es. join (take n gs) ++ (es ++ join (drop (suc n) gs))) (c.in_ok-pages.ensures.pairs ∙ ap (without_key g.K.Ord.cmp c.args.key.now) same)
    ∙ without-joined g.K.Ord.cmp c.args.key.now gs n (mid_pairs (arc_value p)) c.middle_for-at.ensures in
    record {
      full = e.1 c.requires.full;
      grouped = record {
        no_empty = e.0.no_empty c.requires.grouped.no_empty;
        ascends = subst (Ascends g.K.Ord.cmp) (sym whole) (ascends_without g.K.Ord.cmp c.args.key.now (join gs) c.requires.grouped.ascends);
      };
    }
    ) (both_ok c.with_fewer_pages.result _ _ c.with_fewer_pages.ensures.rebuilt c.with_fewer_pages.ensures.full)
