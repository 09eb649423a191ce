use Rattle.std.proofs.Common.{Some, sym, ap, ◌∙◌}
use Rattle.std.specs.Arc.{arc_value}
use Rattle.std.proofs.Math.ListN.{get_or-map}
use Rattle.lf_ptree.specs.Pairs.{pairs_of}
use Rattle.lf_ptree.proofs.PairsLemmas.{value_there, value_in_gap}
use Rattle.lf_ptree.proofs.pages.value_in.Goals as goal

pub returns-in-Ok : goal.returns-in-Ok
returns-in-Ok g c =
    let handle = c.index-pairs-at.result in
    ap (λ e. Some e.1) (c.deref.ensures ∙ ap arc_value c.index-pairs-at.is ∙ sym (get_or-map arc_value c.args.pairs.now c.in-Ok.at handle))
    ∙ sym (value_there g.K.Ord.cmp g.met.K.Ord.total (pairs_of c.args.pairs.now) c.args.key.now c.in-Ok.at (arc_value handle) c.requires c.in-Ok.ensures.found)

pub returns-in-Err : goal.returns-in-Err
returns-in-Err g c = sym (value_in_gap g.K.Ord.cmp g.met.K.Ord.total (pairs_of c.args.pairs.now) c.args.key.now c.in-Err.field-0 c.in-Err.ensures.absent)
