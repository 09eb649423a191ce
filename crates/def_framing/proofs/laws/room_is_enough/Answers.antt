use Rattle.def_framing.proofs.Agreeing.{room_enough}
use Rattle.def_framing.proofs.laws.room_is_enough.Goals as goal

pub returns : goal.returns
returns c = room_enough
