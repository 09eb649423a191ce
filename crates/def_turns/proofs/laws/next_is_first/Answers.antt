use Rattle.def_turns.proofs.FirstProofs as first
use Rattle.def_turns.proofs.laws.next_is_first.Goals as goal

pub returns : goal.returns
returns c = first.next_is_first
