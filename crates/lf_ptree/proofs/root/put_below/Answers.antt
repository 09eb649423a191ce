use Rattle.std.proofs.Common.{◌<◌, ◌++◌, length, take, drop, suc, sym, ap, subst, ◌∙◌}
use Rattle.std.specs.Arc.{arc_value}
use Rattle.std.proofs.lemmas.Result.{IfOk-weaker}
use Rattle.std.proofs.Math.ListN.{length-map}
use Rattle.lf_ptree.specs.Pairs.{Ascends, put_pair}
use Rattle.lf_ptree.specs.Pages.{join, IsGrouped}
use Rattle.lf_ptree.specs.Roots.{mid_groups, mid_pairs}
use Rattle.lf_ptree.proofs.PairsLemmas.{ascends_put}
use Rattle.lf_ptree.proofs.PagesLemmas.{group_ascends, one_group, put-joined}
use Rattle.lf_ptree.proofs.RootsLemmas.{mid_group, full_at, both_ok}
use Rattle.lf_ptree.proofs.root.put_below.Goals as goal

pub returns-then-is_empty-clause-map : goal.returns-then-is_empty-clause-map
returns-then-is_empty-clause-map g c =
    IfOk-weaker c.first_middle.result _ _ (λ made e. record { full = e.full; grouped = subst (IsGrouped g.K.Ord.cmp) (sym e.only) (one_group g.K.Ord.cmp (c.args.key, c.args.value)) }) c.first_middle.ensures

pub put_in_pages-requires : goal.put_in_pages-requires
put_in_pages-requires g c =
    let ms = c.args.middles.now in
    let n = c.middle_for-at.result in
    let p = c.index-middles-at.result in
    let same = mid_group ms n p c.deref.result.now c.as_slice.result.now c.as_slice.ensures.value c.deref.ensures c.index-middles-at.is in
    let within : n < length ms = rw (length-map, length-map) at c.middle_for-at.ensures.in_range in
    record {
      no_empty = full_at ms n p c.deref.result.now c.as_slice.result.now c.requires.full within c.as_slice.ensures.value c.deref.ensures c.index-middles-at.is;
      ascends = subst (Ascends g.K.Ord.cmp) (sym same) (group_ascends g.K.Ord.cmp (mid_groups ms) n (mid_pairs (arc_value p)) c.middle_for-at.ensures.in_range c.requires.grouped.ascends);
    }

pub returns-clause-pairs : goal.returns-clause-pairs
returns-clause-pairs g c =
    let ms = c.args.middles.now in
    let gs = mid_groups ms in
    let n = c.middle_for-at.result in
    let p = c.index-middles-at.result in
    let same = mid_group ms n p c.deref.result.now c.as_slice.result.now c.as_slice.ensures.value c.deref.ensures c.index-middles-at.is in
    IfOk-weaker c.with_middle.result _ _ (λ made e.
    e.joined
    ∙ ap (λ es. join (take n gs) ++ (es ++ join (drop (suc n) gs))) (c.in_ok-pages.ensures.pairs ∙ ap (put_pair g.K.Ord.cmp c.args.key c.args.value) same)
    ∙ put-joined g.K.Ord.cmp c.args.key c.args.value gs n (mid_pairs (arc_value p)) c.middle_for-at.ensures
    ) c.with_middle.ensures.rebuilt

pub returns-clause-map : goal.returns-clause-map
returns-clause-map g c =
    let ms = c.args.middles.now in
    let gs = mid_groups ms in
    let n = c.middle_for-at.result in
    let p = c.index-middles-at.result in
    let same = mid_group ms n p c.deref.result.now c.as_slice.result.now c.as_slice.ensures.value c.deref.ensures c.index-middles-at.is in
    IfOk-weaker c.with_middle.result _ _ (λ made e.
    let whole = e.0.joined
    ∙ ap (λ es. join (take n gs) ++ (es ++ join (drop (suc n) gs))) (c.in_ok-pages.ensures.pairs ∙ ap (put_pair g.K.Ord.cmp c.args.key c.args.value) same)
    ∙ put-joined g.K.Ord.cmp c.args.key c.args.value gs n (mid_pairs (arc_value p)) c.middle_for-at.ensures in
    record {
      full = e.1 c.requires.full;
      grouped = record {
        no_empty = e.0.no_empty c.requires.grouped.no_empty;
        ascends = subst (Ascends g.K.Ord.cmp) (sym whole) (ascends_put g.K.Ord.cmp g.met.K.Ord.total c.args.key c.args.value (join gs) c.requires.grouped.ascends);
      };
    }
    ) (both_ok c.with_middle.result _ _ c.with_middle.ensures.rebuilt c.with_middle.ensures.full)
