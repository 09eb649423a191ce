use Rattle.lf_pool.proofs.Answering as answering
use Rattle.lf_pool.proofs.laws.home_was_published.Goals as goal

pub returns : goal.returns
returns c = answering.home_was_published
