use Rattle.def_contexts.proofs.Room.{room_is_enough}
use Rattle.def_contexts.proofs.laws.room_is_enough.Goals as goal

pub returns : goal.returns
returns c = room_is_enough
