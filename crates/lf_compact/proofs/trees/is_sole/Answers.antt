use Rattle.lf_compact.proofs.Sole.{sole_one}
use Rattle.lf_compact.proofs.trees.is_sole.Goals as goal

pub returns : goal.returns
returns c = sole_one c.args.values.now
