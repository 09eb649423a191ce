use Rattle.lf_lists.proofs.ReadStates.{list_learnt}
use Rattle.lf_lists.proofs.value.is_list.Goals as goal

pub returns-clause-list : goal.returns-clause-list
returns-clause-list g c = list_learnt c.new-known.ensures.empty c.in_ok-found.ensures.walks
