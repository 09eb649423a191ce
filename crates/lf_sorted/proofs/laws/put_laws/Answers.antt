use Rattle.lf_sorted.proofs.EntriesLemmas.{ascends_put, value_put, value_of_others}
use Rattle.lf_sorted.proofs.laws.put_laws.Goals as goal

pub returns : goal.returns
returns g c = record { order = ascends_put; found = value_put; others = value_of_others }
