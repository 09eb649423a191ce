use Rattle.lf_pool.proofs.Answering as answering
use Rattle.lf_pool.proofs.laws.superseded_was_changed.Goals as goal

pub returns : goal.returns
returns c = answering.superseded_was_changed
