use Rattle.lf_ptree.specs.Pairs.{pairs_of}
use Rattle.lf_ptree.proofs.PairsLemmas.{put_there, put_in_gap}
use Rattle.lf_ptree.proofs.page.with_pair.Goals as goal

pub returns-in-Ok : goal.returns-in-Ok
returns-in-Ok g c = rw (← put_there g.K.Ord.cmp g.met.K.Ord.total (pairs_of c.args.pairs.now) c.args.key c.args.value _ c.requires c.in-Ok.ensures.found) c.set_at.ensures

pub returns-in-Err : goal.returns-in-Err
returns-in-Err g c = rw (← put_in_gap g.K.Ord.cmp g.met.K.Ord.total (pairs_of c.args.pairs.now) c.args.key c.args.value _ c.in-Err.ensures.absent) c.insert_at.ensures
