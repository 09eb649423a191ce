use Rattle.std.proofs.Common.{◌∙◌}
use Rattle.std.proofs.lemmas.Result.{IfOk-weaker}
use Rattle.lf_ptree.specs.Pairs.{pairs_of}
use Rattle.lf_ptree.proofs.RemovalLemmas.{without_there, without_in_gap}
use Rattle.lf_ptree.proofs.removal.without_pair.Goals as goal

pub returns-in-Ok : goal.returns-in-Ok
returns-in-Ok g c =
    IfOk-weaker c.remove_at.result _ _ (λ made e. e ∙ without_there g.K.Ord.cmp g.met.K.Ord.total (pairs_of c.args.pairs.now) c.args.key.now _ c.requires c.in-Ok.ensures.found) c.remove_at.ensures

pub returns-in-Err : goal.returns-in-Err
returns-in-Err g c =
    IfOk-weaker c.share.result _ _ (λ made e. e ∙ without_in_gap g.K.Ord.cmp (pairs_of c.args.pairs.now) c.args.key.now _ c.in-Err.ensures.absent) c.share.ensures
