use Rattle.std.proofs.Common.{◌<◌, sym, ap, subst, ◌∙◌, length}
use Rattle.std.specs.Arc.{arc_value}
use Rattle.std.proofs.Math.ListN.{length-map}
use Rattle.lf_ptree.specs.Pairs.{Ascends, value_at}
use Rattle.lf_ptree.specs.Roots.{mid_groups, mid_pairs}
use Rattle.lf_ptree.proofs.PagesLemmas.{group_ascends, value-joined}
use Rattle.lf_ptree.proofs.RootsLemmas.{mid_group, full_at}
use Rattle.lf_ptree.proofs.root.value_below.Goals as goal

pub value_among-requires : goal.value_among-requires
value_among-requires g c =
    let ms = c.args.middles.now in
    let n = c.middle_for-at.result in
    let p = c.index-middles-at.result in
    let same = mid_group ms n p c.deref.result.now c.as_slice.result.now c.as_slice.ensures.value c.deref.ensures c.index-middles-at.is in
    let within : n < length ms = rw (length-map, length-map) at c.middle_for-at.ensures.in_range in
    record {
      no_empty = full_at ms n p c.deref.result.now c.as_slice.result.now c.requires.full within c.as_slice.ensures.value c.deref.ensures c.index-middles-at.is;
      ascends = subst (Ascends g.K.Ord.cmp) (sym same) (group_ascends g.K.Ord.cmp (mid_groups ms) n (mid_pairs (arc_value p)) c.middle_for-at.ensures.in_range c.requires.grouped.ascends);
    }

pub returns : goal.returns
returns g c =
    let ms = c.args.middles.now in
    let n = c.middle_for-at.result in
    let p = c.index-middles-at.result in
    let same = mid_group ms n p c.deref.result.now c.as_slice.result.now c.as_slice.ensures.value c.deref.ensures c.index-middles-at.is in
    c.value_among.ensures
    ∙ ap (value_at g.K.Ord.cmp c.args.key.now) same
    ∙ sym (value-joined g.K.Ord.cmp g.met.K.Ord.total c.args.key.now (mid_groups ms) n (mid_pairs (arc_value p)) c.requires.grouped.ascends c.middle_for-at.ensures)
