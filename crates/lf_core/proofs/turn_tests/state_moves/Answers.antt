use Rattle.lf_core.proofs.turn_tests.state_moves.Goals as goal
use denote.Param.Send.{sendable}
use Rattle.lf_core.proofs.Sends.{state_sends}

pub may_move-requires-send-T : goal.may_move-requires-send-T
may_move-requires-send-T c κs = search (sendable, state_sends) depth 6
