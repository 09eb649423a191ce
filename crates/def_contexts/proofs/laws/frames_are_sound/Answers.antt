use Rattle.def_contexts.proofs.Framed.{frames_are_sound}
use Rattle.def_contexts.proofs.laws.frames_are_sound.Goals as goal

pub returns : goal.returns
returns c = frames_are_sound
