use Rattle.lf_board.proofs.tests.moves.Goals as goal
use denote.Param.Send.{sendable}
use Rattle.lf_board.proofs.Sends.{board_sends, home_sends}

pub may_move-requires-send-T : goal.may_move-requires-send-T
may_move-requires-send-T c κs = search (sendable, board_sends) depth 6

pub may_move-requires-2-send-T : goal.may_move-requires-2-send-T
may_move-requires-2-send-T c κs = search (sendable, home_sends) depth 6
