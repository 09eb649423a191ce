-- A job, what is ready, and a state may move to another thread: so may each of their leaves.
use denote.Param.Send.{IsSend, sendable}
use Rattle.std.proofs.Crossing.{Arc-send, Vec-send}
use Rattle.lf_base.proofs.text.Text.TheSendSync as text
use Rattle.lf_model.proofs.document.Doc.TheSendSync as doc
use Rattle.def_histories.proofs.live.Live.TheSendSync as live
use Rattle.lf_versions.proofs.commit.Commit.TheSendSync as commit
use Rattle.lf_versions.proofs.version.Version.TheSendSync as version
use Rattle.lf_board.proofs.Sends.{board_field_sends, frame_field_sends, home_field_sends}
use Rattle.lf_core.proofs.entries.Entry.TheSendSync as entry
use Rattle.lf_core.specs.contracts.frames.Kept as Kept
use Rattle.lf_core.specs.contracts.job.Job as Job
use Rattle.lf_core.specs.contracts.job.Job.TheInside as job_inside
use Rattle.lf_core.specs.contracts.ready.NewFrame as NewFrame
use Rattle.lf_core.specs.contracts.ready.Prepared as Prepared
use Rattle.lf_core.specs.contracts.ready.Ready as Ready
use Rattle.lf_core.specs.contracts.ready.Ready.TheInside as ready_inside
use Rattle.lf_core.specs.contracts.state.State as State
use Rattle.lf_core.specs.contracts.state.State.TheInside as state_inside

job_inside_sends : IsSend job_inside.the_row
job_inside_sends = search (sendable, text.the_send, board_field_sends, version.the_send) depth 12

pub job_sends : IsSend Job.the_row
job_sends = search (sendable, job_inside_sends) depth 4

new_frame_field_sends : IsSend NewFrame.the_field.row
new_frame_field_sends = search (sendable, text.the_send, frame_field_sends, home_field_sends) depth 12

prepared_field_sends : IsSend Prepared.the_field.row
prepared_field_sends = search (sendable, commit.the_send, commit.the_sync, version.the_send, new_frame_field_sends, Arc-send) depth 12

ready_inside_sends : IsSend ready_inside.the_row
ready_inside_sends = search (sendable, prepared_field_sends) depth 6

pub ready_sends : IsSend Ready.the_row
ready_sends = search (sendable, ready_inside_sends) depth 4

kept_sends : IsSend Kept.the_row
kept_sends = search (sendable, live.the_field_send, frame_field_sends, home_field_sends, doc.the_send, doc.the_sync, Arc-send) depth 12

state_inside_sends : IsSend state_inside.the_row
state_inside_sends = search (sendable, version.the_send, kept_sends, entry.the_send, Vec-send) depth 12

pub state_sends : IsSend State.the_row
state_sends = search (sendable, state_inside_sends) depth 4
