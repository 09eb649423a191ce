use Rattle.std.proofs.Common.{ap, ◌∙◌}
use Rattle.std.specs.Arc.{arc_value}
use Rattle.lf_ptree.specs.Pairs.{pairs_of}
use Rattle.lf_ptree.proofs.RangeLemmas.{map-drop, from_there, from_in_gap}
use Rattle.lf_ptree.proofs.range.here_from.Goals as goal

pub returns-in-Ok : goal.returns-in-Ok
returns-in-Ok g c =
    ap pairs_of c.split_at.ensures.back
    ∙ map-drop arc_value c.in-Ok.at c.args.pairs.now
    ∙ from_there g.K.Ord.cmp g.met.K.Ord.total (pairs_of c.args.pairs.now) c.args.low.now c.in-Ok.at c.requires c.in-Ok.ensures.found

pub returns-in-Err : goal.returns-in-Err
returns-in-Err g c =
    ap pairs_of c.split_at-in-Err.ensures.back
    ∙ map-drop arc_value c.in-Err.at c.args.pairs.now
    ∙ from_in_gap g.K.Ord.cmp (pairs_of c.args.pairs.now) c.args.low.now c.in-Err.at c.in-Err.ensures.absent
