-- A board, at work or at home, may move to another thread: so may each of its leaves.
use denote.Param.Send.{IsSend, sendable}
use Rattle.std.proofs.Crossing.{Arc-send}
use Rattle.lf_base.proofs.list.ListOf.TheSendSync as list
use Rattle.lf_base.proofs.text.Text.TheSendSync as text
use Rattle.lf_base.specs.contracts.list.ListOf as list_of
use Rattle.lf_rdf.proofs.term.Term.TheSendSync as term
use Rattle.lf_sorted.proofs.map.MapOf.TheSendSync as map
use Rattle.lf_model.proofs.document.Doc.TheSendSync as doc
use Rattle.lf_model.proofs.document.Limit.TheSendSync as limit
use Rattle.lf_model.proofs.frame.DefaultValue.TheSendSync as default
use Rattle.lf_model.proofs.frame.FrameNode.TheSendSync as node
use Rattle.lf_model.proofs.table.TermTable.TheSendSync as table
use Rattle.lf_model.proofs.json.Json.TheLaws.TheKnot.{send-Json}
use Rattle.lf_model.proofs.tree.TreeValue.TheLaws.TheKnot.{send-Tree}
use Rattle.lf_model.specs.contracts.document.Outcome as Outcome
use Rattle.lf_model.specs.contracts.frame.Frame as Frame
use Rattle.lf_model.specs.contracts.frame.FrameNode as FrameNode
use Rattle.lf_model.specs.contracts.json.Json as Json
use Rattle.lf_model.specs.contracts.tree.Tree as Tree
use Rattle.lf_versions.proofs.version.Version.TheSendSync as version
use Rattle.lf_board.specs.contracts.board.Board as Board
use Rattle.lf_board.specs.contracts.board.Board.TheInside as board_inside
use Rattle.lf_board.specs.contracts.evaluated.Evaluated as Evaluated
use Rattle.lf_board.specs.contracts.home.HomeBoard as HomeBoard
use Rattle.lf_board.specs.contracts.home.HomeBoard.TheInside as home_inside

json_field_sends : IsSend Json.the_field.row
json_field_sends = search (sendable, send-Json, list.the_send, text.the_send, map.the_send) depth 12

nodes_send : IsSend (list_of.the_row FrameNode.the_row)
nodes_send = list.the_send FrameNode.the_row node.the_send

pub frame_sends : IsSend Frame.the_row
frame_sends = search (sendable, json_field_sends, nodes_send, table.the_field_send) depth 12

pub frame_field_sends : IsSend Frame.the_field.row
frame_field_sends = search (sendable, json_field_sends, nodes_send, table.the_field_send) depth 12

tree_field_sends : IsSend Tree.the_field.row
tree_field_sends = search (sendable, send-Tree, list.the_send, text.the_send, term.the_send, term.the_field_send, default.the_field_send) depth 12

outcome_sends : IsSend Outcome.the_row
outcome_sends = search (sendable, tree_field_sends, limit.the_field_send) depth 12

evaluated_field_sends : IsSend Evaluated.the_field.row
evaluated_field_sends = search (sendable, version.the_send, outcome_sends, list.the_send, doc.the_send, doc.the_sync, Arc-send) depth 25

home_inside_sends : IsSend home_inside.the_row
home_inside_sends = search (sendable, frame_field_sends, evaluated_field_sends) depth 12

pub home_sends : IsSend HomeBoard.the_row
home_sends = search (sendable, home_inside_sends) depth 4

pub home_field_sends : IsSend HomeBoard.the_field.row
home_field_sends = search (sendable, home_inside_sends) depth 4

board_inside_sends : IsSend board_inside.the_row
board_inside_sends = search (sendable, home_field_sends, doc.the_send, doc.the_sync, Arc-send) depth 12

pub board_sends : IsSend Board.the_row
board_sends = search (sendable, board_inside_sends) depth 4

pub board_field_sends : IsSend Board.the_field.row
board_field_sends = search (sendable, board_inside_sends) depth 4
