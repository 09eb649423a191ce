use Rattle.lf_oracle.proofs.LearntProofs.{learnt_stays}
use Rattle.lf_oracle.proofs.laws.learnt_stays.Goals as goal

pub returns : goal.returns
returns g c = learnt_stays
