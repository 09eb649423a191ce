use Rattle.lf_oracle.proofs.LearntProofs.{learnt_is_exact}
use Rattle.lf_oracle.proofs.laws.learnt_is_exact.Goals as goal

pub returns : goal.returns
returns g c = learnt_is_exact
