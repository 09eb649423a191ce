use Rattle.def_framing.proofs.Matched.{empty_matches}
use Rattle.def_framing.proofs.laws.empty_matches_keys.Goals as goal

pub returns : goal.returns
returns c = empty_matches
