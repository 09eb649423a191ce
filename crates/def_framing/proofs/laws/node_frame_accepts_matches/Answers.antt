use Rattle.def_framing.proofs.Matched.{node_frame_matches}
use Rattle.def_framing.proofs.laws.node_frame_accepts_matches.Goals as goal

pub returns : goal.returns
returns c = node_frame_matches
