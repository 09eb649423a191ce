use Rattle.std.proofs.Common.{◌≡◌, ◌<◌, ◌+◌, ◌++◌, suc, length, drop, get_or, sym, ap, subst, ◌∙◌, arith, append_assoc}
use Rattle.std.specs.Arc.{arc_value}
use Rattle.std.proofs.Math.ListN.{length-map}
use Rattle.lf_ptree.specs.Pairs.{Ascends, pairs_of, pairs_from}
use Rattle.lf_ptree.specs.Pages.{flat, join}
use Rattle.lf_ptree.specs.Roots.{all_pairs, mid_groups, mid_pairs}
use Rattle.lf_ptree.proofs.PagesLemmas.{group_ascends}
use Rattle.lf_ptree.proofs.RootsLemmas.{mid_group, full_at}
use Rattle.lf_ptree.proofs.RangeLemmas.{mids-drop, from-joined}
use Rattle.lf_ptree.proofs.range.all_from.Goals as goal

pub pages_from-requires : goal.pages_from-requires
pages_from-requires g c =
    let ms = c.args.middles.now in
    let n = c.middle_for-at.result in
    let p = c.index-middles-at.result in
    let same = mid_group ms n p c.deref.result.now c.as_slice.result.now c.as_slice.ensures.value c.deref.ensures c.index-middles-at.is in
    let within : n < length ms = rw (length-map, length-map) at c.middle_for-at.ensures.in_range in
    record {
      no_empty = full_at ms n p c.deref.result.now c.as_slice.result.now c.requires.full within c.as_slice.ensures.value c.deref.ensures c.index-middles-at.is;
      ascends = subst (Ascends g.K.Ord.cmp) (sym same) (group_ascends g.K.Ord.cmp (mid_groups ms) n (mid_pairs (arc_value p)) c.middle_for-at.ensures.in_range c.requires.grouped.ascends);
    }

pub returns : goal.returns
returns g c =
    let ms = c.args.middles.now in
    let gs = mid_groups ms in
    let n = c.middle_for-at.result in
    let p = c.index-middles-at.result in
    let low = c.args.low.now in
    let cmp = g.K.Ord.cmp in
    let same = mid_group ms n p c.deref.result.now c.as_slice.result.now c.as_slice.ensures.value c.deref.ensures c.index-middles-at.is in
    let next : n + 1 ≡ suc n = omega arith in
    let here = pairs_of c.pages_from.result.0.now in
    let pages = flat c.pages_from.result.1.now in
    let later = all_pairs c.split_at.result.1.now in
    let behind : later ≡ join (drop (suc n) gs) = ap all_pairs c.split_at.ensures.back ∙ ap join (mids-drop (n + 1) ms) ∙ ap (λ k. join (drop k gs)) next in
    sym (append_assoc here pages later)
    ∙ ap (λ l. l ++ later) (c.pages_from.ensures ∙ ap (pairs_from cmp low) same)
    ∙ ap (λ l. pairs_from cmp low (get_or gs n (mid_pairs (arc_value p))) ++ l) behind
    ∙ from-joined cmp low gs n (mid_pairs (arc_value p)) c.middle_for-at.ensures
